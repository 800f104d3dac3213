-- The judgement of a refresh request, by its client (RFC 6749, 6; RFC 9700, 2.2.2).
--   is_keeping         a client keeps its refresh token
--   registered_lives   the lives that a client was registered with
--   refreshed_of       the judgement of a request of a client that keeps its refresh token
--   renewed_of         the judgement of a refresh request
use Rattle.std.specs.Prelude.{Bool, false, Option, Some, None, if◌then◌else◌}
use Rattle.tk_fact.specs.ClientKinds.{keeps_refresh}
use Rattle.tk_fact.specs.declared.client_lives.ClientLives.{ClientLives}
use Rattle.tk_ledger.specs.ViewFields.{ClientFields}
use Rattle.tk_params.specs.Params.{Pairs}
use Rattle.tk_grant.specs.declared.gate.Gate.{Gate}
use Rattle.tk_grant.specs.declared.gate.Gate.TheVariants.{Shut, Reuse, Open}
use Rattle.tk_grant.specs.declared.judged.Grant.{Grant}
use Rattle.tk_grant.specs.declared.judged.Judged.{Judged}
use Rattle.tk_grant.specs.declared.judged.Judged.TheVariants.{Refused, Reused, Refreshes}
use Rattle.tk_grant.specs.declared.refusal.Refusal.TheVariants.{WrongScope}
use Rattle.tk_grant.specs.Rotated.{rotated_of}
use Rattle.tk_grant.specs.ScopeGranted.{grant_asked}

-- the client keeps its refresh token (own)
abbrev pub is_keeping : Option ClientFields → Bool
is_keeping None = false
is_keeping (Some client) = keeps_refresh client.client_kind

-- the lives that the client was registered with, if it was with any (own)
abbrev pub registered_lives : Option ClientFields → Option ClientLives
registered_lives None = None
registered_lives (Some client) = client.lives

-- the judgement by the grant, if the scope is within the token's (RFC 6749, 6)
abbrev pub refreshed_by : Option Grant → Judged
refreshed_by None = Refused WrongScope
refreshed_by (Some grant) = Refreshes grant

-- the judgement of the refresh token at the gate, for a client that keeps it: nothing is used up,
-- so it may be of any generation (own)
abbrev pub refreshed_of : Option ClientLives → Pairs → Gate → Judged
refreshed_of lives params (Shut why) = Refused why
refreshed_of lives params (Reuse id) = Reused id
refreshed_of lives params (Open id standing) =
    refreshed_by (grant_asked id.dot lives standing params)

-- the judgement of a refresh request: a client that keeps its refresh token gets an access token
-- alone, that of another client is rotated (RFC 6749, 6; RFC 9700, 2.2.2)
abbrev pub renewed_of : Option ClientFields → Pairs → Gate → Judged
renewed_of client params gate =
    if is_keeping client then refreshed_of (registered_lives client) params gate
    else rotated_of (registered_lives client) params gate
