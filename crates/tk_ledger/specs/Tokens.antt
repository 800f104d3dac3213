-- Tokens of a fact set: what is minted, used and revoked, and which families are dead. Relations
-- are about the body at each dot. Tests are functions of the set, cited by the functions that
-- compute them.
--   link_of, links_in       the link of a fact in a family
--   code_in, issued_at      the code that a token is under, and the fact that issued it
--   anchor_in               the dot by which the tokens minted at a dot are in a family
--   IsMintedUnder           the tokens minted at a dot are under a code
--   Root, root_in           the root of a family: its code, and the fact that issued it
--   minted_in               what the fact at a token's dot mints of the token's kind
--   is_used, is_twice       one fact, or two, use a code or refresh token
--   IsRevoked, is_revoked   a client revoked the token with a digest
--   IsEnded, is_ended       the client of its code revoked a token
--   IsReused, is_reused     the reuse of a token was seen
--   IsOut, is_out           the subject of a code signed out
--   IsStopped, is_stopped   a revocation or a sign-out stops a token
--   IsMarked, is_marked     a token is stopped, or its reuse was seen
--   is_bad, is_dead         bad grants, and dead families
-- tk_family defines used, used twice, bad and dead by links and marks: here those of the set,
-- `links_in` and `IsMarked`.
use Rattle.std.specs.Prelude.{◌≡◌, ◌⊎◌, ℕ, Bool, false, ◌&&◌, ◌||◌, not, List, Option, Some, None}
use Rattle.std.specs.Option.{option_and_then, option_map}
use Rattle.std.specs.Str.{bytes_eq}
use Rattle.std.specs.FinMap as map
use Rattle.tk_handle.specs.declared.dot.Dot.{Dot}
use Rattle.tk_handle.specs.declared.kind.Kind.TheVariants as kind
use Rattle.tk_handle.specs.Kind.{is_code, is_refresh}
use Rattle.tk_handle.specs.declared.token_id.TokenId.{TokenId}
use Rattle.tk_family.specs.declared.link.Link.{Link}
use Rattle.tk_family.specs.declared.link.Link.TheVariants.{Code, Redeems, Rotates}
use Rattle.tk_family.specs.Families.{Links, IsUnder, use_of, grant_at}
use Rattle.tk_family.specs.Walks.{code_of}
use Rattle.tk_fact.specs.declared.body.Body.{Body}
use Rattle.tk_fact.specs.declared.body.Body.TheVariants.{
  CodeIssued,
  CodeRedeemed,
  RefreshRotated,
  TokenRevoked,
  ReuseSeen,
}
use Rattle.tk_fact.specs.declared.code_issued.CodeIssued as issued
use Rattle.tk_fact.specs.declared.token_revoked.TokenRevoked as revoked
use Rattle.tk_fact.specs.declared.reuse_seen.ReuseSeen as seen
use Rattle.tk_fact.specs.Tokens.{MintedFields, anchor_of, minted_of}
use Rattle.tk_store.specs.FactSet.{FactSet, any_fact}
use Rattle.tk_ledger.specs.Bodies.{Bodies, is_same_dot, is_same_token, names_dot, names_token}
use Rattle.tk_ledger.specs.SignOuts.{IsSignedOut, is_signed_out}

-- ---- links, and the code that a token is under

-- the link of a fact in a family: it issues a code, redeems one, or rotates a refresh token (RFC
-- 6749, 4.1 and 6)
abbrev pub link_of : Body → Option Link
link_of (CodeIssued f) = Some Code
link_of (CodeRedeemed f) = Some (Redeems f.code)
link_of (RefreshRotated f) = Some (Rotates f.parent f.generation)
link_of body = None

-- the link at each dot (own)
abbrev pub links_in : Bodies → Links
links_in body_at d = option_and_then link_of (body_at d)

-- the code that the link at a dot is under (own)
abbrev pub code_in : Bodies → Dot → Option Dot
code_in body_at d = code_of (links_in body_at) d

-- the dot by which the tokens of a fact are in a family, or the given dot if there is none (own)
abbrev pub anchor_by : Dot → Option Body → Dot
anchor_by d None = d
anchor_by d (Some body) = anchor_of d body

-- the dot by which the tokens minted at a dot are in a family (own)
abbrev pub anchor_in : Bodies → Dot → Dot
anchor_in body_at d = anchor_by d (body_at d)

-- the tokens minted at d are under the code c (own)
abbrev pub IsMintedUnder : Bodies → Dot → Dot → Type 0
IsMintedUnder body_at d c = IsUnder (links_in body_at) (anchor_in body_at d) c

-- the code that the body issues, if it issues one (RFC 6749, 4.1.2)
abbrev pub issued_in : Body → Option issued.CodeIssued
issued_in (CodeIssued f) = Some f
issued_in body = None

-- the fact that issued the code (RFC 6749, 4.1.2)
abbrev pub issued_at : Bodies → Dot → Option issued.CodeIssued
issued_at body_at c = option_and_then issued_in (body_at c)

-- a code was issued at the dot, and its subject signed out everywhere at its start or later (own)
pub record IsOut (body_at : Bodies) (d : Dot) : Type 0 where
  pub issued : issued.CodeIssued
  pub issues : issued_at body_at d ≡ Some issued
  pub signed_out : IsSignedOut body_at issued.subject issued.start

-- the subject of the code, if there is one, signed out at its start or later (own)
abbrev pub is_out_by : FactSet → Option issued.CodeIssued → Bool
is_out_by F None = false
is_out_by F (Some code) = is_signed_out F code.subject code.start

-- a code was issued at the dot, and its subject signed out at its start or later: the test (own)
abbrev pub is_out : FactSet → Dot → Bool
is_out F d = is_out_by F (issued_at (map.get F) d)

-- the root of a family: its code, and the fact that issued it (own)
pub record Root : Type 0 where
  pub code : Dot
  pub issued : issued.CodeIssued

-- the root with the code (own)
abbrev pub root_of : Bodies → Dot → Option Root
root_of body_at c = option_map (λ f. record { code = c; issued = f }) (issued_at body_at c)

-- the root of the family of what is minted at a dot (own)
abbrev pub root_in : Bodies → Dot → Option Root
root_in body_at d = option_and_then (root_of body_at) (code_in body_at (anchor_in body_at d))

-- ---- what is minted

-- what the fact at the token's dot mints of the token's kind (RFC 6749, 4.1.2, 4.1.4 and 6)
abbrev pub minted_in : Bodies → TokenId → Option MintedFields
minted_in body_at k = option_and_then (λ b. minted_of b k.kind) (body_at k.dot)

-- ---- uses

-- the fact redeems or rotates the token, as it names it (RFC 6749, 4.1.2 and 6)
abbrev pub uses : TokenId → Dot × Body → Bool
uses k f = names_token (use_of (link_of f.1)) k

-- a fact of the set uses the token, whatever its generation (RFC 6749, 4.1.2 and 6)
abbrev pub is_used : FactSet → TokenId → Bool
is_used F k = any_fact (uses k) F

-- the fact uses the token, and is not at the dot (RFC 6749, 4.1.2 and 6)
abbrev pub uses_elsewhere : TokenId → Dot → Dot × Body → Bool
uses_elsewhere k d f = not (is_same_dot d f.0) && uses k f

-- the fact uses the token, and so does another (RFC 6749, 4.1.2 and 10.4)
abbrev pub uses_first : FactSet → TokenId → Dot × Body → Bool
uses_first F k f = uses k f && any_fact (uses_elsewhere k f.0) F

-- two facts use the token, whatever their generations (RFC 6749, 4.1.2 and 10.4)
abbrev pub is_twice : FactSet → TokenId → Bool
is_twice F k = any_fact (uses_first F k) F

-- ---- revocations

-- a fact is that the client revoked the token with the digest (RFC 7009, 2.1)
pub record IsRevoked (body_at : Bodies) (k : TokenId) (digest : List ℕ) (client : Dot) : Type 0
  where
    pub place : Dot
    pub revocation : revoked.TokenRevoked
    pub held : body_at place ≡ Some (TokenRevoked revocation)
    pub token : revocation.token ≡ k
    pub digest_is : revocation.digest ≡ digest
    pub client_is : revocation.client ≡ client

-- the body is that the client revoked the token with the digest (RFC 7009, 2.1)
abbrev pub revoked_by : TokenId → List ℕ → Dot → Body → Bool
revoked_by k digest client (TokenRevoked f) =
    is_same_token f.token k && (bytes_eq f.digest digest && is_same_dot f.client client)
revoked_by k digest client body = false

-- the fact is that the client revoked the token with the digest (RFC 7009, 2.1)
abbrev pub revokes : TokenId → List ℕ → Dot → Dot × Body → Bool
revokes k digest client f = revoked_by k digest client f.1

-- a fact of the set is that the client revoked the token with the digest (RFC 7009, 2.1)
abbrev pub is_revoked : FactSet → TokenId → List ℕ → Dot → Bool
is_revoked F k digest client = any_fact (revokes k digest client) F

-- the client of the code that the token is under revoked the token, by its minted digest (RFC 7009,
-- 2.1: its own client alone)
pub record IsEnded (body_at : Bodies) (k : TokenId) : Type 0 where
  pub minted : MintedFields
  pub code : Dot
  pub issued : issued.CodeIssued
  pub mints : minted_in body_at k ≡ Some minted
  pub under : IsMintedUnder body_at k.dot code
  pub issues : issued_at body_at code ≡ Some issued
  pub by_client : IsRevoked body_at k minted.digest issued.client

-- the client of the root revoked the token by its minted digest, if both are there (RFC 7009, 2.1)
abbrev pub is_ended_by : FactSet → TokenId → Option MintedFields → Option Root → Bool
is_ended_by F k None root = false
is_ended_by F k (Some minted) None = false
is_ended_by F k (Some minted) (Some root) = is_revoked F k minted.digest root.issued.client

-- the client of the code that the token is under revoked the token: the test (RFC 7009, 2.1)
abbrev pub is_ended : FactSet → TokenId → Bool
is_ended F k = is_ended_by F k (minted_in (map.get F) k) (root_in (map.get F) k.dot)

-- ---- marks, bad grants and dead families

-- a fact is that the token's reuse was seen (RFC 6749, 4.1.2, 10.4 and 10.5)
pub record IsReused (body_at : Bodies) (k : TokenId) : Type 0 where
  pub place : Dot
  pub reuse : seen.ReuseSeen
  pub held : body_at place ≡ Some (ReuseSeen reuse)
  pub token : reuse.token ≡ k

-- the body is that the token's reuse was seen (RFC 6749, 4.1.2, 10.4 and 10.5)
abbrev pub reuse_of : TokenId → Body → Bool
reuse_of k (ReuseSeen f) = is_same_token f.token k
reuse_of k body = false

-- the fact is that the token's reuse was seen (RFC 6749, 4.1.2, 10.4 and 10.5)
abbrev pub sees_reuse : TokenId → Dot × Body → Bool
sees_reuse k f = reuse_of k f.1

-- a fact of the set is that the token's reuse was seen (RFC 6749, 4.1.2, 10.4 and 10.5)
abbrev pub is_reused : FactSet → TokenId → Bool
is_reused F k = any_fact (sees_reuse k) F

-- the token is a refresh token that its client revoked (RFC 7009, 2.1), or a code whose subject
-- signed out (own)
abbrev pub IsStopped : Bodies → TokenId → Type 0
IsStopped body_at k =
    ((k.kind ≡ kind.Refresh) × IsEnded body_at k) ⊎ ((k.kind ≡ kind.Code) × IsOut body_at k.dot)

-- the token is a refresh token that its client revoked, or a code whose subject signed out: the
-- test (RFC 7009, 2.1; own)
abbrev pub is_stopped : FactSet → TokenId → Bool
is_stopped F k = (is_refresh k.kind && is_ended F k) || (is_code k.kind && is_out F k.dot)

-- the token's reuse was seen (RFC 6749, 10.4 and 10.5), or the token is stopped
abbrev pub IsMarked : Bodies → TokenId → Type 0
IsMarked body_at k = IsReused body_at k ⊎ IsStopped body_at k

-- the token's reuse was seen, or the token is stopped: the test (RFC 6749, 4.1.2, 10.4 and 10.5;
-- own)
abbrev pub is_marked : FactSet → TokenId → Bool
is_marked F k = is_reused F k || is_stopped F k

-- the grant of the link, if there is one, is marked or used twice (RFC 6749, 4.1.2, 10.4 and 10.5)
abbrev pub is_bad_grant : FactSet → Dot → Option Link → Bool
is_bad_grant F d None = false
is_bad_grant F d (Some link) = is_marked F (grant_at d link) || is_twice F (grant_at d link)

-- the code or refresh token that the fact mints is marked, or used twice (RFC 6749, 4.1.2, 10.4 and
-- 10.5)
abbrev pub is_bad : FactSet → Dot × Body → Bool
is_bad F f = is_bad_grant F f.0 (link_of f.1)

-- the fact mints a bad grant under the code (RFC 6749, 4.1.2, 10.4 and 10.5)
abbrev pub kills : FactSet → Dot → Dot × Body → Bool
kills F c f = names_dot (code_in (map.get F) f.0) c && is_bad F f

-- a code or refresh token under the code is bad (RFC 6749, 4.1.2, 10.4 and 10.5)
abbrev pub is_dead : FactSet → Dot → Bool
is_dead F c = any_fact (kills F c) F
