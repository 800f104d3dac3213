-- What holds of every gate, whatever the facts (own).
--   IsSoundGate   a reuse is of a code or refresh token; the family of an open gate has not ended
use Rattle.std.specs.Prelude.{◌≡◌, ◌<◌, ℕ, true}
use Rattle.tk_fact.specs.Check.{is_used_once}
use Rattle.tk_grant.specs.declared.gate.Gate.{Gate}
use Rattle.tk_grant.specs.declared.gate.Gate.TheVariants.{Shut, Reuse, Open}

-- a token that is reused is a code or refresh token, and the family of an open gate has not ended
-- (own)
abbrev pub IsSoundGate : ℕ → Gate → Type 0
IsSoundGate now (Shut why) = Unit {0}
IsSoundGate now (Reuse id) = is_used_once id.kind ≡ true
IsSoundGate now (Open id standing) = now < standing.family_end
