-- Statuses that every endpoint answers alike (own).
--   is_closed       the family of a token can't be used any more
--   IsLost          every endpoint answers a handle of this status as it answers a wrong one
--   AnsweredAlike   two statuses of a handle are answered alike
use Rattle.std.specs.Prelude.{◌≡◌, ◌≢◌, ◌⊎◌, ◌≤◌, ℕ, Bool, true, false}
use Rattle.tk_handle.specs.declared.handle.Handle.{Handle}
use Rattle.tk_handle.specs.declared.kind.Kind.TheVariants as kind
use Rattle.tk_ledger.specs.declared.status.State.{State}
use Rattle.tk_ledger.specs.declared.status.State.TheVariants as state
use Rattle.tk_ledger.specs.declared.status.Status.{Status}
use Rattle.tk_ledger.specs.declared.status.Status.TheVariants.{Unseen, Wrong, Broken, Known}

-- the family of the token can't be used any more: it is dead, its client or consent is not live, or
-- it is over
abbrev pub is_closed : State → Bool
is_closed state.Dead = true
is_closed state.Withdrawn = true
is_closed state.Over = true
is_closed other = false

-- every endpoint answers a handle of this status as it answers a wrong one: its family is closed or
-- unknown, and an access or refresh token is past
abbrev pub IsLost : ℕ → Handle → Status → Type 0
IsLost now h Unseen = ⊥
IsLost now h Wrong = Unit {0}
IsLost now h (Broken expiry) = (h.id.kind ≢ kind.Code) × (expiry ≤ now)
IsLost now h (Known s) = (is_closed s.state ≡ true) × (h.id.kind ≢ kind.Code → s.expiry ≤ now)

-- two statuses of the handle are equal, or both are lost
abbrev pub AnsweredAlike : ℕ → Handle → Status → Status → Type 0
AnsweredAlike now h s r = (s ≡ r) ⊎ (IsLost now h s × IsLost now h r)
