-- What a refresh token is good for (RFC 6749, 6).
--   grant_by      the grant for a scope, if there is one
--   grant_asked   the grant for the scope that is asked for
use Rattle.std.specs.Prelude.{ℕ, List, codes, Option, Some, None}
use Rattle.tk_handle.specs.declared.dot.Dot.{Dot}
use Rattle.tk_fact.specs.declared.client_lives.ClientLives.{ClientLives}
use Rattle.tk_ledger.specs.StandingFields.{StandingFields}
use Rattle.tk_params.specs.Params.{Pairs, value_of}
use Rattle.tk_message.specs.ScopeAsked.{scope_asked}
use Rattle.tk_grant.specs.declared.judged.Grant.{Grant}

-- the grant for a scope, if there is one: the access token gets the scope, and the refresh token
-- that of the one that was sent (RFC 6749, 6)
abbrev pub grant_by : Dot → Option ClientLives → StandingFields → Option (List ℕ) → Option Grant
grant_by from lives standing None = None
grant_by from lives standing (Some scope) = Some (record {
  from = from;
  family_end = standing.family_end;
  lives = lives;
  access = scope;
  refresh = standing.scope;
})

-- the grant for the scope that is asked for, if that is within the token's. A request without a
-- scope is one for the token's scope (RFC 6749, 6)
abbrev pub grant_asked : Dot → Option ClientLives → StandingFields → Pairs → Option Grant
grant_asked from lives standing params =
    grant_by from lives standing (scope_asked standing.scope (value_of (codes "scope") params))
