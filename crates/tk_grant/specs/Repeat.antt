-- Refreshes that are repeated (own; the request is that of RFC 6749, 6).
--   is_refresh_request   a request is for new tokens by a refresh token
--   is_again     a request is an earlier one again
--   live_in      the standing of a status, if it is that of a live token
--   repeat_of    the reply with the two tokens of a fact, if both are live
--   later_reply  the reply to a grant, said again later
use Rattle.std.specs.Prelude.{ℕ, ◌-◌, Bool, true, false, ◌&&◌, not, List, codes, Option}
use Rattle.std.specs.Prelude.{Some, None, if◌then◌else◌}
use Rattle.std.specs.List.{list_all}
use Rattle.std.specs.Str.{bytes_eq}
use Rattle.tk_handle.specs.declared.dot.Dot.{Dot}
use Rattle.tk_handle.specs.declared.handle.Handle.{Handle}
use Rattle.tk_store.specs.StoreFields.{StoreFields}
use Rattle.tk_ledger.specs.StandingFields.{StandingFields}
use Rattle.tk_ledger.specs.Status.{is_live, status_here}
use Rattle.tk_ledger.specs.declared.status.Status.{Status}
use Rattle.tk_ledger.specs.declared.status.Status.TheVariants.{Unseen, Wrong, Broken, Known}
use Rattle.tk_params.specs.Params.{Pairs, has_twice, value_of}
use Rattle.tk_message.specs.Bodies.{token_body}
use Rattle.tk_message.specs.Place.{next_in}
use Rattle.tk_message.specs.Reply.{json_reply}
use Rattle.tk_message.specs.ReplyFields.{ReplyFields}
use Rattle.tk_message.specs.RequestFields.{RequestFields}
use Rattle.tk_message.specs.declared.place.Place.{Place}
use Rattle.tk_message.specs.declared.request.Endpoint.{Endpoint}
use Rattle.tk_message.specs.declared.request.Endpoint.TheVariants as endpoint
use Rattle.tk_message.specs.declared.status_code.StatusCode.TheVariants.{Ok}
use Rattle.tk_grant.specs.Granted.{access_handle, ends_at, lives_at, refresh_handle}
use Rattle.tk_grant.specs.Judged.{known_names}
use Rattle.tk_grant.specs.declared.judged.Grant.{Grant}

-- the endpoint is that of tokens (own)
abbrev pub is_token : Endpoint → Bool
is_token endpoint.Token = true
is_token e = false

-- the grant type is that of refresh tokens (RFC 6749, 6)
abbrev pub is_refresh_type : Option (List ℕ) → Bool
is_refresh_type None = false
is_refresh_type (Some name) = bytes_eq name (codes "refresh_token")

-- a request is for new tokens by a refresh token (RFC 6749, 6)
abbrev pub is_refresh_request : RequestFields → Bool
is_refresh_request request =
    is_token request.endpoint && is_refresh_type (value_of (codes "grant_type") request.params)

-- both values are the same, or there is none of either (own)
abbrev pub is_same : Option (List ℕ) → Option (List ℕ) → Bool
is_same None None = true
is_same (Some a) (Some b) = bytes_eq a b
is_same a b = false

-- two requests have the same value of a name (own)
abbrev pub has_same : List ℕ → Pairs → Pairs → Bool
has_same name earlier params = is_same (value_of name earlier) (value_of name params)

-- two requests have the same values of these names (own)
abbrev pub have_same : List (List ℕ) → Pairs → Pairs → Bool
have_same names earlier params = list_all (λ name. has_same name earlier params) names

-- a request is an earlier one again: the parameters that the endpoint knows and the credentials of
-- the header are the same, and none of these parameters occurs twice (own)
abbrev pub is_again : RequestFields → RequestFields → Bool
is_again earlier request =
    is_same earlier.authorization request.authorization
    && have_same known_names earlier.params request.params
    && not (has_twice known_names request.params)

-- the standing, if it is that of a live token (own)
abbrev pub live_as : StandingFields → Option StandingFields
live_as s = if is_live s.state then Some s else None

-- the standing of a status, if it is that of a live token (own)
abbrev pub live_in : Status → Option StandingFields
live_in Unseen = None
live_in Wrong = None
live_in (Broken expiry) = None
live_in (Known standing) = live_as standing

-- the reply with two tokens, if there is a standing of both: the access token's life is what is
-- left of it (own)
abbrev pub repeat_by : ℕ → Handle → Handle → Option StandingFields → Option StandingFields
    → Option ReplyFields
repeat_by now access refresh (Some s) (Some t) =
    Some (json_reply Ok (token_body access (s.expiry - now) refresh s.scope))
repeat_by now access refresh s t = None

-- the reply with the two tokens that the fact at the dot minted of these random words, if both are
-- live at the moment (own)
abbrev pub repeat_of : StoreFields → ℕ → Dot → List ℕ → Option ReplyFields
repeat_of P now dot words =
    repeat_by now (access_handle dot words) (refresh_handle dot words)
    (live_in (status_here P now (access_handle dot words)))
    (live_in (status_here P now (refresh_handle dot words)))

-- the reply to a grant, said again later: `expires_in` alone differs (own)
abbrev pub later_reply : Place → ℕ → ℕ → List ℕ → Grant → ReplyFields
later_reply place now later words grant = json_reply Ok
    (token_body (access_handle (next_in place) words)
    (ends_at now (lives_at place grant).access grant.family_end - later)
    (refresh_handle (next_in place) words) grant.access)
