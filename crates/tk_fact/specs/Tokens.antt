-- The tokens that a fact mints, their place in a family, and the token that it uses (own).
--   MintedFields   what contracts see of a minted token
--   minted_of      the token of a kind that a fact mints
--   anchor_of      the dot by which the tokens that a fact mints are in a family
--   uses_of        the code or refresh token that a fact redeems or rotates
use Rattle.std.specs.Prelude.{ℕ, List, Option, Some, None}
use Rattle.tk_handle.specs.declared.dot.Dot.{Dot}
use Rattle.tk_handle.specs.declared.kind.Kind.{Kind}
use Rattle.tk_handle.specs.declared.kind.Kind.TheVariants.{Code, Access, Refresh}
use Rattle.tk_handle.specs.declared.token_id.TokenId.{TokenId}
use Rattle.tk_fact.specs.declared.body.Body.{Body}
use Rattle.tk_fact.specs.declared.body.Body.TheVariants.{CodeIssued, CodeRedeemed, RefreshRotated}
use Rattle.tk_fact.specs.declared.body.Body.TheVariants.{AccessRefreshed}
use Rattle.tk_fact.specs.declared.minted_token.MintedToken.{MintedToken}
use Rattle.tk_fact.specs.declared.tokens.Minted.{Minted}

-- a minted token as contracts see it: the digest of its handle, its start and expiry, the printed
-- form of its scope
pub record MintedFields : Type 0 where
  pub digest : List ℕ
  pub start : ℕ
  pub expiry : ℕ
  pub scope : List ℕ

-- a `Minted` of the code as contracts see it
abbrev pub shown_minted : Minted → MintedFields
shown_minted m = record {
  digest = m.digest.now;
  start = m.start;
  expiry = m.expiry;
  scope = m.scope.now;
}

-- an access or refresh token with the given start
abbrev pub minted_at : ℕ → MintedToken → MintedFields
minted_at start m = record { digest = m.digest; start = start; expiry = m.expiry; scope = m.scope }

-- the token of a kind that a body mints: CodeIssued mints a code, CodeRedeemed and RefreshRotated
-- each an access token and a refresh token, AccessRefreshed an access token
abbrev pub minted_of : Body → Kind → Option MintedFields
minted_of (CodeIssued f) Code =
    Some (record { digest = f.digest; start = f.start; expiry = f.expiry; scope = f.scope })
minted_of (CodeRedeemed f) Access = Some (minted_at f.start f.access)
minted_of (CodeRedeemed f) Refresh = Some (minted_at f.start f.refresh)
minted_of (RefreshRotated f) Access = Some (minted_at f.start f.access)
minted_of (RefreshRotated f) Refresh = Some (minted_at f.start f.refresh)
minted_of (AccessRefreshed f) Access = Some (minted_at f.start f.access)
minted_of body kind = None

-- the dot by which the tokens that the fact at a dot mints are in a family: that of the fact that
-- minted the refresh token for an access token that was refreshed, otherwise its own
abbrev pub anchor_of : Dot → Body → Dot
anchor_of d (AccessRefreshed f) = f.parent
anchor_of d body = d

-- the token that a body uses: the code that CodeRedeemed redeems, the refresh token that
-- RefreshRotated rotates
abbrev pub uses_of : Body → Option TokenId
uses_of (CodeRedeemed f) = Some (record { dot = f.code; kind = Code })
uses_of (RefreshRotated f) = Some (record { dot = f.parent; kind = Refresh })
uses_of body = None
