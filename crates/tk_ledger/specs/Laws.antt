-- The laws of the ledger (own): each is a clause of a function in `laws`. The laws hold of all sets
-- of facts, hostile ones too. `IsSubset F G` means that G holds each fact of F.
--   UsedDecided .. LiveConsentDecided    each test decides the relation of its name
--   UsesAgree                            a fact uses what its link uses
--   DeathStays .. WithdrawnStays         what stays when facts are added
--   KnownExactly .. BrokenExactly        each status is returned for the handles that it describes
--   RevokedInactive, FamilyInactive, SignedOutInactive
--                                        what is never active again
--   BadGrants                            which grants are bad
--   SecretsEnd, TurnsGrow                a secret is not good two turns later; last turns grow
use Rattle.std.specs.Prelude.{◌≡◌, ◌≢◌, ◌⊎◌, ◌↔◌, ◌≤◌, ◌+◌, ℕ, true, false, List, Some, IsTrue}
use Rattle.std.specs.FinMap as map
use Rattle.tk_handle.specs.declared.dot.Dot.{Dot}
use Rattle.tk_handle.specs.declared.kind.Kind.TheVariants as kind
use Rattle.tk_handle.specs.declared.token_id.TokenId.{TokenId}
use Rattle.tk_handle.specs.declared.handle.Handle.{Handle}
use Rattle.tk_family.specs.Families.{use_of, IsUnder, IsUsed, IsTwice, IsBad, IsDead}
use Rattle.tk_fact.specs.declared.body.Body.{Body}
use Rattle.tk_fact.specs.declared.body.Body.TheVariants.{SecretSet}
use Rattle.tk_fact.specs.declared.code_issued.CodeIssued as issued
use Rattle.tk_fact.specs.declared.secret_set.SecretSet as set
use Rattle.tk_fact.specs.Tokens.{MintedFields, uses_of}
use Rattle.tk_store.specs.FactSet.{FactSet, IsSubset}
use Rattle.tk_ledger.specs.Bodies.{Bodies}
use Rattle.tk_ledger.specs.Clients.{
  IsRetired,
  IsLiveClient,
  IsWithdrawn,
  IsLiveConsent,
  is_retired,
  is_live_client,
  is_withdrawn,
  is_live_consent,
}
use Rattle.tk_ledger.specs.Secrets.{last_turn, is_secret_at, is_good_secret}
use Rattle.tk_ledger.specs.Tokens.{
  link_of,
  links_in,
  minted_in,
  is_used,
  is_twice,
  is_revoked,
  is_ended,
  is_marked,
  is_dead,
  IsRevoked,
  IsEnded,
  IsOut,
  IsMarked,
  IsMintedUnder,
}
use Rattle.tk_ledger.specs.Status.{IsActive, IsKnown, IsKnownToken, Says, status_in}
use Rattle.tk_ledger.specs.declared.status.Status.TheVariants.{Unseen, Wrong, Broken}

-- ---- the tests decide the relations

-- the test of a used token decides the relation
abbrev pub UsedDecided : Type 0
UsedDecided = (F : FactSet) (k : TokenId) → IsTrue (is_used F k) ↔ IsUsed (links_in (map.get F)) k

-- the test of a token that was used twice decides the relation
abbrev pub TwiceDecided : Type 0
TwiceDecided =
    (F : FactSet) (k : TokenId) → IsTrue (is_twice F k) ↔ IsTwice (links_in (map.get F)) k

-- the test of a revocation decides the relation
abbrev pub RevokedDecided : Type 0
RevokedDecided = (F : FactSet) (k : TokenId) (digest : List ℕ) (client : Dot)
    → IsTrue (is_revoked F k digest client) ↔ IsRevoked (map.get F) k digest client

-- the test of a token that its client revoked decides the relation
abbrev pub EndedDecided : Type 0
EndedDecided = (F : FactSet) (k : TokenId) → IsTrue (is_ended F k) ↔ IsEnded (map.get F) k

-- the test of a mark decides the relation
abbrev pub MarkedDecided : Type 0
MarkedDecided = (F : FactSet) (k : TokenId) → IsTrue (is_marked F k) ↔ IsMarked (map.get F) k

-- the test of a dead family decides the relation
abbrev pub DeadDecided : Type 0
DeadDecided =
    (F : FactSet) (c : Dot) → IsTrue (is_dead F c)
    ↔ IsDead (links_in (map.get F)) (IsMarked (map.get F)) c

-- the test of a retired client decides the relation
abbrev pub RetiredDecided : Type 0
RetiredDecided = (F : FactSet) (d : Dot) → IsTrue (is_retired F d) ↔ IsRetired (map.get F) d

-- the test of a withdrawn consent decides the relation
abbrev pub WithdrawnDecided : Type 0
WithdrawnDecided = (F : FactSet) (d : Dot) → IsTrue (is_withdrawn F d) ↔ IsWithdrawn (map.get F) d

-- the test of a live client decides the relation
abbrev pub LiveClientDecided : Type 0
LiveClientDecided =
    (F : FactSet) (d : Dot) → IsTrue (is_live_client F d) ↔ IsLiveClient (map.get F) d

-- the test of a code's live consent decides the relation
abbrev pub LiveConsentDecided : Type 0
LiveConsentDecided = (F : FactSet) (code : issued.CodeIssued) → IsTrue (is_live_consent F code)
    ↔ IsLiveConsent (map.get F) code

-- ---- what a fact uses

-- a fact uses what its link uses
abbrev pub UsesAgree : Type 0
UsesAgree = (body : Body) → uses_of body ≡ use_of (link_of body)

-- ---- what stays when facts are added

-- a dead family stays dead
abbrev pub DeathStays : Type 0
DeathStays = (F G : FactSet) → IsSubset F G → (c : Dot)
    → IsDead (links_in (map.get F)) (IsMarked (map.get F)) c
    → IsDead (links_in (map.get G)) (IsMarked (map.get G)) c

-- a token that its client revoked stays revoked
abbrev pub EndedStays : Type 0
EndedStays =
    (F G : FactSet) → IsSubset F G → (k : TokenId) → IsEnded (map.get F) k → IsEnded (map.get G) k

-- a client that a retirement names is never live again
abbrev pub RetiredStays : Type 0
RetiredStays = (F G : FactSet) → IsSubset F G → (d : Dot) → IsRetired (map.get F) d
    → ¬ IsLiveClient (map.get G) d

-- a consent that a withdrawal names is never live again, for any code
abbrev pub WithdrawnStays : Type 0
WithdrawnStays = (F G : FactSet) → IsSubset F G → (code : issued.CodeIssued)
    → IsWithdrawn (map.get F) code.consent → ¬ IsLiveConsent (map.get G) code

-- ---- the statuses

-- Known is the status of exactly the handles whose token is minted, with the handle's digest, and
-- under a code
abbrev pub KnownExactly : Type 0
KnownExactly =
    (F : FactSet) (now : ℕ) (h : Handle) → IsKnown (status_in F now h) ↔ IsKnownToken (map.get F) h

-- Unseen is the status of exactly the handles that it describes
abbrev pub UnseenExactly : Type 0
UnseenExactly =
    (F : FactSet) (now : ℕ) (h : Handle) → (status_in F now h ≡ Unseen) ↔ Says (map.get F) h Unseen

-- Wrong is the status of exactly the handles that it describes
abbrev pub WrongExactly : Type 0
WrongExactly =
    (F : FactSet) (now : ℕ) (h : Handle) → (status_in F now h ≡ Wrong) ↔ Says (map.get F) h Wrong

-- Broken, with an expiry, is the status of exactly the handles that it describes
abbrev pub BrokenExactly : Type 0
BrokenExactly = (F : FactSet) (now : ℕ) (h : Handle) (expiry : ℕ)
    → (status_in F now h ≡ Broken expiry) ↔ Says (map.get F) h (Broken expiry)

-- ---- what is never active again

-- a token that its client revoked is never active, at any moment, once those facts are held
abbrev pub RevokedInactive : Type 0
RevokedInactive = (F G : FactSet) → IsSubset F G → (now : ℕ) (h : Handle) → IsEnded (map.get F) h.id
    → ¬ IsActive (map.get G) now h

-- a token in the family of a bad grant is never active once those facts are held
abbrev pub FamilyInactive : Type 0
FamilyInactive = (F G : FactSet) → IsSubset F G → (now : ℕ) (h : Handle) (d c : Dot)
    → IsBad (links_in (map.get F)) (IsMarked (map.get F)) d → IsUnder (links_in (map.get G)) d c
    → IsMintedUnder (map.get G) h.id.dot c → ¬ IsActive (map.get G) now h

-- a token under a code whose subject signed out, at the code's start or later, is never active once
-- those facts are held
abbrev pub SignedOutInactive : Type 0
SignedOutInactive = (F G : FactSet) → IsSubset F G → (now : ℕ) (h : Handle) (c : Dot)
    → IsOut (map.get F) c → IsMintedUnder (map.get G) h.id.dot c → ¬ IsActive (map.get G) now h

-- a code or refresh token that is minted is a bad grant exactly if it is marked or used twice
abbrev pub BadGrants : Type 0
BadGrants = (body_at : Bodies) (k : TokenId) (minted : MintedFields) → k.kind ≢ kind.Access
    → minted_in body_at k ≡ Some minted → IsBad (links_in body_at) (IsMarked body_at) k.dot
    ↔ (IsMarked body_at k ⊎ IsTwice (links_in body_at) k)

-- ---- secrets

-- a secret is not good once one of a turn two or more above each of its own is held
abbrev pub SecretsEnd : Type 0
SecretsEnd = (F : FactSet) (client : Dot) (first digest : List ℕ) (d : Dot) (f : set.SecretSet)
    → map.get F d ≡ Some (SecretSet f) → f.client ≡ client
    → ((turn : ℕ) → is_secret_at F client first turn digest ≡ true → turn + 2 ≤ f.turn)
    → is_good_secret F client first digest ≡ false

-- the last turn of a client is no lower when facts are added
abbrev pub TurnsGrow : Type 0
TurnsGrow =
    (F G : FactSet) → IsSubset F G → (client : Dot) → last_turn F client ≤ last_turn G client
