-- The gate: whether the code or refresh token that was sent can be redeemed, by the cases that both
-- grants share, in their order (RFC 6749, 4.1.2, 4.1.3, 5.2 and 6).
--   gate_of   the gate by the text that was sent
use Rattle.std.specs.Prelude.{ℕ, ◌==◌, List, Option, Some, None, if◌then◌else◌}
use Rattle.tk_handle.specs.declared.dot.Dot.{Dot}
use Rattle.tk_handle.specs.declared.kind.Kind.{Kind}
use Rattle.tk_handle.specs.declared.handle.Handle.{Handle}
use Rattle.tk_handle.specs.declared.token_id.TokenId.{TokenId}
use Rattle.tk_handle.specs.Handle.{handle_in}
use Rattle.tk_handle.specs.Kind.{kind_number}
use Rattle.tk_store.specs.StoreFields.{StoreFields}
use Rattle.tk_ledger.specs.Bodies.{is_same_dot}
use Rattle.tk_ledger.specs.StandingFields.{StandingFields}
use Rattle.tk_ledger.specs.Status.{status_here}
use Rattle.tk_ledger.specs.declared.status.State.{State}
use Rattle.tk_ledger.specs.declared.status.State.TheVariants as state
use Rattle.tk_ledger.specs.declared.status.Status.{Status}
use Rattle.tk_ledger.specs.declared.status.Status.TheVariants.{Unseen, Wrong, Broken, Known}
use Rattle.tk_grant.specs.declared.gate.Gate.{Gate}
use Rattle.tk_grant.specs.declared.gate.Gate.TheVariants.{Shut, Reuse, Open}
use Rattle.tk_grant.specs.declared.refusal.Refusal.TheVariants.{
  MissingGrant,
  UnknownGrant,
  ForeignGrant,
  DeadFamily,
  WithdrawnGrant,
  FamilyOver,
  PastGrant,
}

-- the gate by the token's state: a dead family (RFC 6749, 4.1.2 and 10.4), a client or consent that
-- is not live (own), a family that is over (own), a reuse (RFC 6749, 4.1.2 and 10.4), an expired
-- token (RFC 6749, 5.2). Ended is a state of access tokens alone, which never are at the gate
abbrev pub gate_by_state : TokenId → StandingFields → State → Gate
gate_by_state id standing state.Dead = Shut DeadFamily
gate_by_state id standing state.Withdrawn = Shut WithdrawnGrant
gate_by_state id standing state.Over = Shut FamilyOver
gate_by_state id standing state.Used = Reuse id
gate_by_state id standing state.Past = Shut PastGrant
gate_by_state id standing state.Ended = Shut PastGrant
gate_by_state id standing state.Live = Open id standing

-- the gate by the token's client, which must be the one that asks (RFC 6749, 5.2)
abbrev pub gate_by_client : TokenId → Dot → StandingFields → Gate
gate_by_client id client standing =
    if is_same_dot standing.client client then gate_by_state id standing standing.state
    else Shut ForeignGrant

-- the gate by the token's status: the token must be minted, under a code (RFC 6749, 5.2)
abbrev pub gate_by_status : TokenId → Dot → Status → Gate
gate_by_status id client Unseen = Shut UnknownGrant
gate_by_status id client Wrong = Shut UnknownGrant
gate_by_status id client (Broken expiry) = Shut UnknownGrant
gate_by_status id client (Known standing) = gate_by_client id client standing

-- the gate by the handle, which must be of the given kind (RFC 6749, 5.2)
abbrev pub gate_by_handle : StoreFields → ℕ → Dot → Kind → Handle → Gate
gate_by_handle P now client kind h =
    if kind_number h.id.kind == kind_number kind
    then gate_by_status (record { dot = h.id.dot; kind = kind }) client (status_here P now h)
    else Shut UnknownGrant

-- the gate by the handle that the text spells, if it spells one (RFC 6749, 5.2)
abbrev pub gate_by_text : StoreFields → ℕ → Dot → Kind → Option Handle → Gate
gate_by_text P now client kind None = Shut UnknownGrant
gate_by_text P now client kind (Some h) = gate_by_handle P now client kind h

-- the gate by the text that was sent, which is required (RFC 6749, 4.1.3 and 6)
abbrev pub gate_of : StoreFields → ℕ → Dot → Kind → Option (List ℕ) → Gate
gate_of P now client kind None = Shut MissingGrant
gate_of P now client kind (Some text) = gate_by_text P now client kind (handle_in text)
