-- The judgement of a refresh token (RFC 6749, 6).
--   rotated_of   the judgement of a request for a refresh token's tokens
use Rattle.std.specs.Prelude.{ℕ, ◌+◌, nat_le, Option, Some, None, if◌then◌else◌}
use Rattle.tk_fact.specs.Check.{max_generations}
use Rattle.tk_fact.specs.declared.client_lives.ClientLives.{ClientLives}
use Rattle.tk_params.specs.Params.{Pairs}
use Rattle.tk_grant.specs.declared.gate.Gate.{Gate}
use Rattle.tk_grant.specs.declared.gate.Gate.TheVariants.{Shut, Reuse, Open}
use Rattle.tk_grant.specs.declared.judged.Grant.{Grant}
use Rattle.tk_grant.specs.declared.judged.Judged.{Judged}
use Rattle.tk_grant.specs.declared.judged.Judged.TheVariants.{Refused, Reused, Rotates}
use Rattle.tk_grant.specs.declared.refusal.Refusal.TheVariants.{LastGeneration, WrongScope}
use Rattle.tk_grant.specs.ScopeGranted.{grant_asked}

-- the judgement by the grant, if the scope is within the token's (RFC 6749, 6)
abbrev pub rotated_by : ℕ → Option Grant → Judged
rotated_by generation None = Refused WrongScope
rotated_by generation (Some grant) = Rotates generation grant

-- the judgement of the refresh token at the gate. The last generation is not rotated (own)
abbrev pub rotated_of : Option ClientLives → Pairs → Gate → Judged
rotated_of lives params (Shut why) = Refused why
rotated_of lives params (Reuse id) = Reused id
rotated_of lives params (Open id standing) =
    if nat_le max_generations standing.generation then Refused LastGeneration
    else rotated_by (standing.generation + 1) (grant_asked id.dot lives standing params)
