-- The rules that a fact must keep (own).
--   refusal_of   the first rule that a body breaks, if any
use Rattle.std.specs.Prelude.{ℕ, Bool, true, false, ◌&&◌, nat_le, Option, Some, None, if◌then◌else◌}
use Rattle.std.specs.List.{list_all}
use Rattle.tk_handle.specs.declared.kind.Kind.{Kind}
use Rattle.tk_handle.specs.declared.kind.Kind.TheVariants.{Code, Access, Refresh}
use Rattle.tk_match.specs.Challenge.{ChallengeFields, is_verifier}
use Rattle.tk_match.specs.Redirects.{is_uri}
use Rattle.tk_fact.specs.declared.body.Body.{Body}
use Rattle.tk_fact.specs.declared.body.Body.TheVariants as bodies
use Rattle.tk_fact.specs.declared.by.By.{By}
use Rattle.tk_fact.specs.declared.client_lives.ClientLives.{ClientLives}
use Rattle.tk_fact.specs.declared.check.FactError.{FactError}
use Rattle.tk_fact.specs.declared.minted_token.MintedToken.{MintedToken}
use Rattle.tk_fact.specs.Subject.{is_subject}

-- ---- the limits

-- no operator, or an operator whose name is that of a subject
abbrev pub is_by : Option By → Bool
is_by None = true
is_by (Some by) = is_subject by.operator

-- no challenge, or a challenge whose text has the grammar (RFC 7636, 4.2)
abbrev pub is_challenge : Option ChallengeFields → Bool
is_challenge None = true
is_challenge (Some challenge) = is_verifier challenge.text

-- ---- the ranges

-- neither token expires before the start
abbrev pub ends_after : ℕ → MintedToken → MintedToken → Bool
ends_after start access refresh = nat_le start access.expiry && nat_le start refresh.expiry

-- the greatest number of generations of a family: how often its refresh token is rotated (own)
abbrev pub max_generations : ℕ
max_generations = 10000

-- a generation: 1 to `max_generations`
abbrev pub is_generation : ℕ → Bool
is_generation n = nat_le 1 n && nat_le n max_generations

-- the greatest turn of a client's secret: how often it can be changed (own)
abbrev pub max_turns : ℕ
max_turns = 1000000

-- a turn of a secret that was set: 1 to `max_turns`
abbrev pub is_turn : ℕ → Bool
is_turn turn = nat_le 1 turn && nat_le turn max_turns

-- a life: 1 second to the longest
abbrev pub is_life : ℕ → ℕ → Bool
is_life longest life = nat_le 1 life && nat_le life longest

-- the longest life of an access token in seconds: a day (own)
abbrev pub max_access_life : ℕ
max_access_life = 86400

-- the longest life of a refresh token in seconds: a year (own)
abbrev pub max_refresh_life : ℕ
max_refresh_life = 31536000

-- the longest life of a family in seconds: ten years (own)
abbrev pub max_family_life : ℕ
max_family_life = 315360000

-- no lives, or lives each of which is in range
abbrev pub are_lives : Option ClientLives → Bool
are_lives None = true
are_lives (Some lives) =
    is_life max_access_life lives.access && is_life max_refresh_life lives.refresh
    && is_life max_family_life lives.family

-- a kind of token that can be revoked: access or refresh, not a code (RFC 7009, 2)
abbrev pub is_revocable : Kind → Bool
is_revocable Code = false
is_revocable Access = true
is_revocable Refresh = true

-- a kind of token that can be used only once: a code or a refresh token
abbrev pub is_used_once : Kind → Bool
is_used_once Code = true
is_used_once Access = false
is_used_once Refresh = true

-- ---- the check

-- the first kind of rule that is broken: the limits, then the ranges
abbrev pub first_broken : Bool → Bool → Option FactError
first_broken limits ranges =
    if limits then (if ranges then None else Some FactError.Range)
    else Some FactError.Limit

-- the first rule that a body breaks, if any. The limits: each subject, operator, redirection URI
-- and challenge is within its length and its alphabet. The ranges: no expiry, nor the end of a
-- family, is before its start, and each life, generation, turn and kind of token is within its
-- range
abbrev pub refusal_of : Body → Option FactError
refusal_of (bodies.ClientAdded fact) =
    first_broken (is_by fact.by && list_all is_uri fact.redirects) (are_lives fact.lives)
refusal_of (bodies.ClientRetired fact) = first_broken (is_by fact.by) true
refusal_of (bodies.ConsentGiven fact) =
    first_broken (is_by fact.by && is_subject fact.subject) true
refusal_of (bodies.ConsentWithdrawn fact) = first_broken (is_by fact.by) true
refusal_of (bodies.CodeIssued fact) =
    first_broken (is_subject fact.subject && is_uri fact.uri && is_challenge fact.challenge)
    (nat_le fact.start fact.expiry && nat_le fact.start fact.family_end)
refusal_of (bodies.CodeRedeemed fact) =
    first_broken true (ends_after fact.start fact.access fact.refresh)
refusal_of (bodies.RefreshRotated fact) =
    first_broken true (is_generation fact.generation
    && ends_after fact.start fact.access fact.refresh)
refusal_of (bodies.TokenRevoked fact) =
    first_broken (is_by fact.by) (is_revocable fact.token.kind)
refusal_of (bodies.ReuseSeen fact) = first_broken true (is_used_once fact.token.kind)
refusal_of (bodies.SubjectOut fact) = first_broken (is_by fact.by && is_subject fact.subject) true
refusal_of (bodies.AccessRefreshed fact) =
    first_broken true (nat_le fact.start fact.access.expiry)
refusal_of (bodies.SecretSet fact) = first_broken (is_by fact.by) (is_turn fact.turn)
