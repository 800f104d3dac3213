-- What holds of every standing. Key result: sound_status.
use Rattle.std.proofs.Common.{◌≡◌, ◌&&◌, nat_le, ℕ, Bool, true, false, if◌then◌else◌, Option, Some}
use Rattle.std.proofs.Common.{None, refl, subst}
use Rattle.std.proofs.lemmas.Bool.{and_parts}
use Rattle.std.specs.FinMap as map
use Rattle.tk_handle.specs.declared.dot.Dot.{Dot}
use Rattle.tk_handle.specs.declared.handle.Handle.{Handle}
use Rattle.tk_fact.specs.Check.{refusal_of, is_challenge}
use Rattle.tk_fact.specs.Subject.{is_subject}
use Rattle.tk_match.specs.Redirects.{is_uri}
use Rattle.tk_fact.specs.declared.body.Body.{Body}
use Rattle.tk_fact.specs.declared.body.Body.TheVariants as bodies
use Rattle.tk_fact.specs.declared.check.FactError.{FactError}
use Rattle.tk_fact.specs.declared.code_issued.CodeIssued as issued
use Rattle.tk_fact.specs.Tokens.{MintedFields}
use Rattle.tk_store.specs.FactSet.{FactSet, IsFactSet}
use Rattle.tk_ledger.specs.Tokens.{issued_in, issued_at, Root, root_in}
use Rattle.tk_ledger.specs.Status.{minted_as, status_by, status_in}
use Rattle.tk_ledger.specs.Standings.{IsSound}
use Rattle.tk_ledger.proofs.StatusLaws.{chain_live, above}
use Rattle.tk_ledger.proofs.RootLaws.{from_some, root-sound}

-- a fact that passes its check keeps its limits
limits_kept : (a b : Bool)
    → (if a then (if b then None else Some FactError.Range) else Some FactError.Limit) ≡ None
    → a ≡ true
limits_kept true b h = refl
limits_kept false b h = cc

-- a body that passes its check issues codes to names of subjects alone
issues : (b : Body) (code : issued.CodeIssued) → issued_in b ≡ Some code → refusal_of b ≡ None
    → is_subject code.subject ≡ true
issues (bodies.CodeIssued f) code h passes =
    let kept = limits_kept (is_subject f.subject && is_uri f.uri && is_challenge f.challenge)
    (nat_le f.start f.expiry && nat_le f.start f.family_end) passes in
    let same : f ≡ code = cc in
    subst (λ (c : issued.CodeIssued). is_subject c.subject ≡ true) same
    (and_parts _ _ (and_parts _ _ kept).0).0
issues (bodies.ClientAdded f) code h passes = cc
issues (bodies.ClientRetired f) code h passes = cc
issues (bodies.ConsentGiven f) code h passes = cc
issues (bodies.ConsentWithdrawn f) code h passes = cc
issues (bodies.CodeRedeemed f) code h passes = cc
issues (bodies.RefreshRotated f) code h passes = cc
issues (bodies.TokenRevoked f) code h passes = cc
issues (bodies.ReuseSeen f) code h passes = cc
issues (bodies.SubjectOut f) code h passes = cc
issues (bodies.AccessRefreshed f) code h passes = cc
issues (bodies.SecretSet f) code h passes = cc

-- a code of a set whose facts pass their checks was issued to the name of a subject
issued_subject : (F : FactSet) → IsFactSet F → (c : Dot) (code : issued.CodeIssued)
    → issued_at (map.get F) c ≡ Some code → is_subject code.subject ≡ true
issued_subject F sound c code e =
    let x : (b : Body) × (map.get F c ≡ Some b) × (issued_in b ≡ Some code) =
    from_some issued_in (map.get F c) code e in
    issues x.0 code x.2 (sound c x.0 x.1)

-- for `sound_status`: by the body at the dot, the minted token and the root
sound_by : (F : FactSet) (now : ℕ) (h : Handle) → IsFactSet F
    → (b : Option Body) (m : Option MintedFields) (o : Option Root)
    → root_in (map.get F) h.id.dot ≡ o → IsSound now (status_by F now h.id b m o)
sound_by F now h sound None m o n = tt
sound_by F now h sound (Some b) None o n = tt
sound_by F now h sound (Some b) (Some m) None n = tt
sound_by F now h sound (Some b) (Some m) (Some o) n = (
  issued_subject F sound o.code o.issued (root-sound F h.id.dot o n).1,
  λ live. above o.issued.family_end now (chain_live _ _ _ _ _ _ live).over,
)

-- the status by facts that pass their checks is sound
pub sound_status : (F : FactSet) (now : ℕ) (h : Handle) → IsFactSet F
    → IsSound now (status_in F now h)
sound_status F now h sound = sound_by F now h sound (map.get F h.id.dot) (minted_as (map.get F) h)
    (root_in (map.get F) h.id.dot) refl
