-- The status of a token by the top of its anchor in a forest, and by the tables (own).
--   code_in_top, root_by      the code of a top, and its root
--   ended_in                  the client of the root revoked a token, by the table
--   TopSays                   the top of a dot in a forest with the links and marks of a set
--   state_by, standing_by     the first state that holds, and the standing, if `dead` is known
--   by_root, by_top           the status of a minted token
use Rattle.std.specs.Prelude.{
  ◌≡◌,
  ℕ,
  Bool,
  true,
  false,
  ◌&&◌,
  not,
  nat_le,
  Option,
  Some,
  None,
  if◌then◌else◌,
}
use Rattle.std.specs.Option.{option_and_then}
use Rattle.std.specs.BTreeSet.{BTreeSet}
use Rattle.std.specs.FinMap as map
use Rattle.tk_handle.specs.declared.dot.Dot.{Dot}
use Rattle.tk_handle.specs.declared.token_id.TokenId.{TokenId}
use Rattle.tk_handle.specs.Kind.{is_access}
use Rattle.tk_family.specs.declared.top.Top.{Top}
use Rattle.tk_family.specs.declared.top.Top.TheVariants as top
use Rattle.tk_fact.specs.declared.body.Body.{Body}
use Rattle.tk_fact.specs.Tokens.{MintedFields}
use Rattle.tk_fact.specs.declared.code_issued.CodeIssued as issued
use Rattle.tk_store.specs.FactSet.{FactSet}
use Rattle.tk_ledger.specs.Bodies.{Bodies}
use Rattle.tk_ledger.specs.Clients.{is_live_client, is_live_consent}
use Rattle.tk_ledger.specs.Index.{has_revocation}
use Rattle.tk_ledger.specs.StandingFields.{StandingFields}
use Rattle.tk_ledger.specs.Status.{generation_of}
use Rattle.tk_ledger.specs.Tokens.{Root, root_of, code_in, is_dead, is_used, is_revoked}
use Rattle.tk_ledger.specs.declared.revocations.Revocation.{Revocation}
use Rattle.tk_ledger.specs.declared.status.State.{State}
use Rattle.tk_ledger.specs.declared.status.State.TheVariants as state
use Rattle.tk_ledger.specs.declared.status.Status.{Status}
use Rattle.tk_ledger.specs.declared.status.Status.TheVariants.{Broken, Known}

-- the code of a top, if there is one
abbrev pub code_in_top : Top → Option Dot
code_in_top top.Absent = None
code_in_top top.Broken = None
code_in_top (top.Code c) = Some c
code_in_top (top.Dead c) = Some c

-- the root of a family, by its code
abbrev pub root_by : Bodies → Option Dot → Option Root
root_by body_at code = option_and_then (root_of body_at) code

-- the client of the root revoked the token that was minted, by the table
abbrev pub ended_in : BTreeSet Revocation → TokenId → Option MintedFields → Option Root → Bool
ended_in t k None root = false
ended_in t k (Some minted) None = false
ended_in t k (Some minted) (Some root) = has_revocation t k minted.digest root.issued.client

-- the top of the dot has the code that the dot is under, and whether that code's family is dead
abbrev pub TopSays : FactSet → Dot → Top → Type 0
TopSays F d top.Absent = code_in (map.get F) d ≡ None
TopSays F d top.Broken = code_in (map.get F) d ≡ None
TopSays F d (top.Code c) = (code_in (map.get F) d ≡ Some c) × (is_dead F c ≡ false)
TopSays F d (top.Dead c) = (code_in (map.get F) d ≡ Some c) × (is_dead F c ≡ true)

-- the first state that holds of a token under the code. `dead` is whether the code's family is dead
abbrev pub state_by : Bool → FactSet → ℕ → TokenId → MintedFields → issued.CodeIssued → State
state_by dead F now k minted code =
    if dead then state.Dead
    else if not (is_live_client F code.client && is_live_consent F code) then state.Withdrawn
    else if nat_le code.family_end now then state.Over
    else if not (is_access k.kind) && is_used F k then state.Used
    else if nat_le minted.expiry now then state.Past
    else if is_access k.kind && is_revoked F k minted.digest code.client then state.Ended
    else state.Live

-- the standing of a token under the root. `dead` is whether the root's family is dead
abbrev pub standing_by : Bool → FactSet → ℕ → TokenId → Body → MintedFields → Root → StandingFields
standing_by dead F now k body minted root = record {
  client = root.issued.client;
  subject = root.issued.subject;
  code = root.code;
  issued = root.issued;
  scope = minted.scope;
  start = minted.start;
  expiry = minted.expiry;
  family_end = root.issued.family_end;
  generation = generation_of body;
  state = state_by dead F now k minted root.issued;
}

-- the status of a token that the body minted, by its root
abbrev pub by_root : Bool → FactSet → ℕ → TokenId → Body → MintedFields → Option Root → Status
by_root dead F now k body minted None = Broken minted.expiry
by_root dead F now k body minted (Some root) = Known (standing_by dead F now k body minted root)

-- the status of a token that the body minted, by the top of its anchor
abbrev pub by_top : FactSet → ℕ → TokenId → Body → MintedFields → Top → Status
by_top F now k body minted top.Absent = Broken minted.expiry
by_top F now k body minted top.Broken = Broken minted.expiry
by_top F now k body minted (top.Code c) = by_root false F now k body minted (root_of (map.get F) c)
by_top F now k body minted (top.Dead c) = by_root true F now k body minted (root_of (map.get F) c)
