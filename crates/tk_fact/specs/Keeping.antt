-- For which token a fact is kept (own). When that token's family is over, the fact may be skipped.
--   refresh_at     the refresh token that the fact at a dot minted
--   kept_for       the token for which a fact is kept, if there is one
--   is_passing     a fact is kept for a token; the facts of the other kinds last
--   names_of       the dot that a fact names
use Rattle.std.specs.Prelude.{◌≡◌, Bool, true, false, Option, Some, None, is_some}
use Rattle.tk_handle.specs.declared.dot.Dot.{Dot}
use Rattle.tk_handle.specs.declared.kind.Kind.TheVariants.{Code, Refresh}
use Rattle.tk_handle.specs.declared.token_id.TokenId.{TokenId}
use Rattle.tk_fact.specs.declared.body.Body.{Body}
use Rattle.tk_fact.specs.declared.body.Body.TheVariants.{CodeIssued, CodeRedeemed, RefreshRotated}
use Rattle.tk_fact.specs.declared.body.Body.TheVariants.{TokenRevoked, ReuseSeen, AccessRefreshed}

-- the refresh token that the fact at the dot minted
abbrev pub refresh_at : Dot → TokenId
refresh_at d = record { dot = d; kind = Refresh }

-- the token for which the fact is kept: a code or refresh token that it mints, the token that it
-- revokes, the token that it saw used again, or the refresh token for which it mints an access
-- token
abbrev pub kept_for : Dot → Body → Option TokenId
kept_for d (CodeIssued f) = Some (record { dot = d; kind = Code })
kept_for d (CodeRedeemed f) = Some (record { dot = d; kind = Refresh })
kept_for d (RefreshRotated f) = Some (record { dot = d; kind = Refresh })
kept_for d (TokenRevoked f) = Some f.token
kept_for d (ReuseSeen f) = Some f.token
kept_for d (AccessRefreshed f) = Some (refresh_at f.parent)
kept_for d body = None

-- the fact is kept for a token, at whatever dot it stands
abbrev pub is_passing : Body → Bool
is_passing (CodeIssued f) = true
is_passing (CodeRedeemed f) = true
is_passing (RefreshRotated f) = true
is_passing (TokenRevoked f) = true
is_passing (ReuseSeen f) = true
is_passing (AccessRefreshed f) = true
is_passing body = false

-- the dot that a fact names: of the code that it redeems, of the refresh token that it rotates, of
-- the token that it revokes, of the token that it saw used again, or of the refresh token for which
-- it mints an access token. The facts that last are left out
abbrev pub names_of : Body → Option Dot
names_of (CodeRedeemed f) = Some f.code
names_of (RefreshRotated f) = Some f.parent
names_of (TokenRevoked f) = Some f.token.dot
names_of (ReuseSeen f) = Some f.token.dot
names_of (AccessRefreshed f) = Some f.parent
names_of body = None

-- a fact is kept for a token exactly if it is of a kind that passes
abbrev pub PassingIsKept : Type 0
PassingIsKept = (d : Dot) (b : Body) → is_passing b ≡ is_some (kept_for d b)
