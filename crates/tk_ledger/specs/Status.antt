-- The status of a handle at a moment (RFC 7662, 2.2, and own).
--   state_in          the state of a token under a code: the first that holds
--   standing_in       the standing of a token under a code
--   status_in         the status of a handle: a function of the set, the moment and the handle
--   status_here       the status of a handle by what a store knows
--   IsMintedToken     the fact at the token's dot minted the token, with the handle's digest
--   IsKnownToken      the token is minted with the handle's digest, and is under a code
--   Says              what each status means for a handle
--   SaysHere          what each status means by what a store knows
--   IsActive          the token of an access or refresh handle is active
--   IsKnown, IsLive   a status is known, and its state is Live
--   is_live           a state is Live
use Rattle.std.specs.Prelude.{
  ◌≡◌,
  ◌≢◌,
  ◌<◌,
  ℕ,
  Bool,
  true,
  false,
  ◌&&◌,
  not,
  nat_le,
  List,
  Option,
  Some,
  None,
  if◌then◌else◌,
}
use Rattle.std.specs.Str.{bytes_eq}
use Rattle.std.specs.FinMap as map
use Rattle.sha2.specs.Sha256.{sha256}
use Rattle.tk_handle.specs.declared.dot.Dot.{Dot}
use Rattle.tk_handle.specs.declared.kind.Kind.TheVariants as kind
use Rattle.tk_handle.specs.Kind.{is_access}
use Rattle.tk_handle.specs.declared.token_id.TokenId.{TokenId}
use Rattle.tk_handle.specs.declared.handle.Handle.{Handle}
use Rattle.tk_handle.specs.Handle.{handle_bytes}
use Rattle.tk_family.specs.Families.{IsInFamily, IsUsed, IsDead}
use Rattle.tk_fact.specs.declared.body.Body.{Body}
use Rattle.tk_fact.specs.declared.body.Body.TheVariants.{RefreshRotated}
use Rattle.tk_fact.specs.declared.code_issued.CodeIssued as issued
use Rattle.tk_fact.specs.Tokens.{MintedFields}
use Rattle.tk_store.specs.FactSet.{FactSet}
use Rattle.tk_store.specs.Slots.{is_skipped}
use Rattle.tk_store.specs.StoreFields.{StoreFields, held_facts}
use Rattle.tk_ledger.specs.Bodies.{Bodies}
use Rattle.tk_ledger.specs.Clients.{IsLiveClient, IsLiveConsent, is_live_client, is_live_consent}
use Rattle.tk_ledger.specs.StandingFields.{StandingFields}
use Rattle.tk_ledger.specs.Tokens.{
  Root,
  root_in,
  minted_in,
  links_in,
  anchor_in,
  IsMintedUnder,
  issued_at,
  is_dead,
  is_used,
  is_ended,
  IsEnded,
  IsMarked,
}
use Rattle.tk_ledger.specs.declared.status.State.{State}
use Rattle.tk_ledger.specs.declared.status.State.TheVariants as state
use Rattle.tk_ledger.specs.declared.status.Status.{Status}
use Rattle.tk_ledger.specs.declared.status.Status.TheVariants.{Unseen, Wrong, Broken, Known}

-- the first state that holds (own): the family is dead; its client or consent is not live; the
-- family is over; a fact uses the code or refresh token; the token is past; its client revoked the
-- access token; or none of these
abbrev pub state_in : FactSet → ℕ → TokenId → MintedFields → Root → State
state_in F now k minted root =
    if is_dead F root.code then state.Dead
    else if not (is_live_client F root.issued.client && is_live_consent F root.issued)
    then state.Withdrawn
    else if nat_le root.issued.family_end now then state.Over
    else if not (is_access k.kind) && is_used F k then state.Used
    else if nat_le minted.expiry now then state.Past
    else if is_access k.kind && is_ended F k then state.Ended
    else state.Live

-- the state is that of a live token (own)
abbrev pub is_live : State → Bool
is_live state.Dead = false
is_live state.Withdrawn = false
is_live state.Over = false
is_live state.Used = false
is_live state.Past = false
is_live state.Ended = false
is_live state.Live = true

-- the generation of the fact's tokens: the number of rotations from the code to them (own)
abbrev pub generation_of : Body → ℕ
generation_of (RefreshRotated f) = f.generation
generation_of body = 0

-- the standing of a token. Client, subject and the family's end are those of the fact that issued
-- the code; scope, start, expiry and generation are those of the fact that minted the token (own)
abbrev pub standing_in : FactSet → ℕ → TokenId → Body → MintedFields → Root → StandingFields
standing_in F now k body minted root = record {
  client = root.issued.client;
  subject = root.issued.subject;
  code = root.code;
  issued = root.issued;
  scope = minted.scope;
  start = minted.start;
  expiry = minted.expiry;
  family_end = root.issued.family_end;
  generation = generation_of body;
  state = state_in F now k minted root;
}

-- the digest that facts keep of a handle (FIPS 180-4)
abbrev pub digest_of : Handle → List ℕ
digest_of h = sha256 (handle_bytes h)

-- the minted token, if there is one and it has the digest (own)
abbrev pub with_digest : List ℕ → Option MintedFields → Option MintedFields
with_digest digest None = None
with_digest digest (Some minted) = if bytes_eq minted.digest digest then Some minted else None

-- what the fact at the handle's dot mints of the handle's kind, if that has the handle's digest
-- (own)
abbrev pub minted_as : Bodies → Handle → Option MintedFields
minted_as body_at h = with_digest (digest_of h) (minted_in body_at h.id)

-- the status by the fact at the token's dot, what that fact minted, and the root of its family
-- (own)
abbrev pub status_by : FactSet → ℕ → TokenId → Option Body → Option MintedFields → Option Root
    → Status
-- no fact is at the token's dot
status_by F now k None minted root = Unseen
-- the fact minted no token of the handle's kind and digest
status_by F now k (Some body) None root = Wrong
-- no chain of parents leads from the token to a code
status_by F now k (Some body) (Some minted) None = Broken minted.expiry
-- the token is minted and under a code
status_by F now k (Some body) (Some minted) (Some root) =
    Known (standing_in F now k body minted root)

-- the status of a handle (own)
abbrev pub status_in : FactSet → ℕ → Handle → Status
status_in F now h =
    status_by F now h.id (map.get F h.id.dot) (minted_as (map.get F) h)
    (root_in (map.get F) h.id.dot)

-- the status of a handle by what a store knows: wrong where the token's dot is skipped, and
-- otherwise the status by the facts that are held (own)
abbrev pub status_here : StoreFields → ℕ → Handle → Status
status_here P now h =
    if is_skipped P.slots h.id.dot then Wrong else status_in (held_facts P) now h

-- ---- what a status means

-- the token of the handle was minted: the fact at its dot mints its kind, with the handle's digest
-- (own)
pub record IsMintedToken (body_at : Bodies) (h : Handle) : Type 0 where
  pub minted : MintedFields
  pub mints : minted_in body_at h.id ≡ Some minted
  pub digest : minted.digest ≡ digest_of h

-- the token of the handle was minted, and is under a code (own)
abbrev pub IsKnownToken : Bodies → Handle → Type 0
IsKnownToken body_at h =
    IsMintedToken body_at h × IsInFamily (links_in body_at) (anchor_in body_at h.id.dot)

-- what each of the four statuses means for a handle. No two of them hold together (own)
abbrev pub Says : Bodies → Handle → Status → Type 0
-- no fact is at the token's dot
Says body_at h Unseen = body_at h.id.dot ≡ None
-- a fact is at the token's dot, and did not mint the token
Says body_at h Wrong = (body_at h.id.dot ≢ None) × ¬ IsMintedToken body_at h
-- the token was minted, with the expiry, and is under no code
Says body_at h (Broken expiry) = ((t : IsMintedToken body_at h) × (expiry ≡ t.minted.expiry))
    × ¬ IsInFamily (links_in body_at) (anchor_in body_at h.id.dot)
-- the token was minted, and is under a code
Says body_at h (Known standing) = IsKnownToken body_at h

-- what each status means for a handle, by what a store knows (own)
abbrev pub SaysHere : StoreFields → Handle → Status → Type 0
-- the token's dot is unknown
SaysHere P h Unseen = map.get P.slots h.id.dot ≡ None
-- the token's dot is known, and no fact that is held there minted the token
SaysHere P h Wrong =
    (map.get P.slots h.id.dot ≢ None) × ¬ IsMintedToken (map.get (held_facts P)) h
-- a fact that is held at the token's dot minted it
SaysHere P h (Broken expiry) = Says (map.get (held_facts P)) h (Broken expiry)
SaysHere P h (Known standing) = Says (map.get (held_facts P)) h (Known standing)

-- the status is known (own)
abbrev pub IsKnown : Status → Type 0
IsKnown Unseen = ⊥
IsKnown Wrong = ⊥
IsKnown (Broken expiry) = ⊥
IsKnown (Known standing) = Unit {0}

-- ---- active tokens

-- the token of an access or refresh handle is active at the moment (RFC 7662, 2.2): minted with the
-- handle's digest, not past, of a family that is neither over nor dead, whose client and consent
-- are live. An access token is not revoked, a refresh token not used
pub record IsActive (body_at : Bodies) (now : ℕ) (h : Handle) : Type 0 where
  pub minted : MintedFields
  pub code : Dot
  pub issued : issued.CodeIssued
  pub no_code : h.id.kind ≢ kind.Code
  pub mints : minted_in body_at h.id ≡ Some minted
  pub digest : minted.digest ≡ digest_of h
  pub early : now < minted.expiry
  pub under : IsMintedUnder body_at h.id.dot code
  pub issues : issued_at body_at code ≡ Some issued
  pub client : IsLiveClient body_at issued.client
  pub consent : IsLiveConsent body_at issued
  pub family : now < issued.family_end
  pub alive : ¬ IsDead (links_in body_at) (IsMarked body_at) code
  pub access : h.id.kind ≡ kind.Access → ¬ IsEnded body_at h.id
  pub refresh : h.id.kind ≡ kind.Refresh → ¬ IsUsed (links_in body_at) h.id

-- the status is known, and its state is Live (own)
abbrev pub IsLive : Status → Type 0
IsLive Unseen = ⊥
IsLive Wrong = ⊥
IsLive (Broken t) = ⊥
IsLive (Known s) = s.state ≡ state.Live
