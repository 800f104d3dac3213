-- Families over links and marks. Links are given by their look-up: for each dot what the fact there
-- does in a family. Marks are given by their relation. A token is named by the dot of the fact that
-- minted it, so families speak of dots.
--   Links, Marks               the links at dots; the marked tokens
--   used_by, use_of            the token that a link uses
--   named_by                   the dot that a link names
--   grant_at                   the code or refresh token that a link mints
--   fits, IsParent             the parent of a dot
--   IsTrail                    parents, whether or not they lead to a code
--   IsPath, IsUnder            the code that a dot is under; its family is all that is under the
--                              code
--   IsInFamily                 a dot is under some code
--   rank, rank_of              how many parents a whole chain has
--   IsUsed, IsTwice            the uses of a code or refresh token
--   IsBad, IsDead              bad grants, and the dead families that they make
--   LinksWithin, MarksWithin   links and marks that are part of more
use Rattle.std.specs.Prelude.{◌≡◌, ◌≢◌, ◌⊎◌, ◌==◌, ℕ, ◌+◌, Bool, true, false, Option, None, Some}
use Rattle.std.specs.Prelude.{List, [], ◌∷◌}
use Rattle.tk_handle.specs.declared.dot.Dot.{Dot}
use Rattle.tk_handle.specs.declared.kind.Kind.TheVariants as kind
use Rattle.tk_handle.specs.declared.token_id.TokenId.{TokenId}
use Rattle.tk_family.specs.declared.link.Link.{Link}
use Rattle.tk_family.specs.declared.link.Link.TheVariants.{Code, Redeems, Rotates}

-- the link at each dot, if there is one (own)
abbrev pub Links : Type 0
Links = Dot → Option Link

-- the tokens that are marked: their reuse was seen, their client revoked them, or their subject
-- signed out (RFC 6749, 10.4 and 10.5; RFC 7009, 2.1; own)
abbrev pub Marks : Type 1
Marks = TokenId → Type 0

-- the token that a link uses: the code that it redeems, or the refresh token that it rotates (RFC
-- 6749, 4.1.2 and 6)
abbrev pub used_by : Link → Option TokenId
used_by Code = None
used_by (Redeems code) = Some (record { dot = code; kind = kind.Code })
used_by (Rotates parent generation) = Some (record { dot = parent; kind = kind.Refresh })

-- the dot that a link names (own)
abbrev pub named_by : Link → Option Dot
named_by Code = None
named_by (Redeems code) = Some code
named_by (Rotates parent generation) = Some parent

-- the code or refresh token that the link at a dot mints (RFC 6749, 4.1.2, 4.1.4 and 6)
abbrev pub grant_at : Dot → Link → TokenId
grant_at d Code = record { dot = d; kind = kind.Code }
grant_at d (Redeems code) = record { dot = d; kind = kind.Refresh }
grant_at d (Rotates parent generation) = record { dot = d; kind = kind.Refresh }

-- ---- parents, and the code that a dot is under

-- a link fits the link at the dot that it names: a redemption fits a code, a rotation of generation
-- 1 a redemption, and any rotation a rotation of the generation below (RFC 6749, 4.1 and 6)
abbrev pub fits : Link → Link → Bool
fits Code above = false
fits (Redeems code) Code = true
fits (Redeems code) (Redeems other) = false
fits (Redeems code) (Rotates other g) = false
fits (Rotates parent g) Code = false
fits (Rotates parent g) (Redeems other) = g == 1
fits (Rotates parent g) (Rotates other h) = g == h + 1

-- p is the parent of e: the link at e names p, and fits the link there (RFC 6749, 4.1 and 6)
pub record IsParent (f : Links) (e p : Dot) : Type 0 where
  pub link : Link
  pub above : Link
  pub here : f e ≡ Some link
  pub names : named_by link ≡ Some p
  pub there : f p ≡ Some above
  pub fitting : fits link above ≡ true

-- the dots ps lead from d to e, each the parent of the one before, whatever e is (own)
abbrev pub IsTrail : Links → Dot → List Dot → Dot → Type 0
IsTrail f d [] e = d ≡ e
IsTrail f d (p ∷ ps) e = IsParent f d p × IsTrail f p ps e

-- the dots ps lead from d to c, and c is a code (own)
abbrev pub IsPath : Links → Dot → List Dot → Dot → Type 0
IsPath f d ps c = IsTrail f d ps c × (f c ≡ Some Code)

-- d is under the code c: some list of parents leads from d to c; a code is under itself (own)
pub record IsUnder (f : Links) (d c : Dot) : Type 0 where
  pub path : List Dot
  pub leads : IsPath f d path c

-- d is in a family: d is under some code (own)
pub record IsInFamily (f : Links) (d : Dot) : Type 0 where
  pub code : Dot
  pub under : IsUnder f d code

-- how many parents a whole chain from a link has (own)
abbrev pub rank : Link → ℕ
rank Code = 0
rank (Redeems code) = 1
rank (Rotates parent g) = g + 1

-- the rank of the link at a dot, or 0 (own)
abbrev pub rank_of : Option Link → ℕ
rank_of None = 0
rank_of (Some link) = rank link

-- ---- uses

-- the token that the link at a dot uses (RFC 6749, 4.1.2 and 6)
abbrev pub use_of : Option Link → Option TokenId
use_of None = None
use_of (Some link) = used_by link

-- some dot has a link that uses the token, whatever the generation (RFC 6749, 4.1.2 and 6)
pub record IsUsed (f : Links) (k : TokenId) : Type 0 where
  pub user : Dot
  pub by : use_of (f user) ≡ Some k

-- two dots have links that use the token, whatever the generations (RFC 6749, 4.1.2 and 6)
pub record IsTwice (f : Links) (k : TokenId) : Type 0 where
  pub one : Dot
  pub two : Dot
  pub apart : one ≢ two
  pub by_one : use_of (f one) ≡ Some k
  pub by_two : use_of (f two) ≡ Some k

-- ---- bad grants and dead families

-- the code or refresh token that is minted at d is marked or used twice (RFC 6749, 4.1.2, 10.4 and
-- 10.5)
pub record IsBad (f : Links) (m : Marks) (d : Dot) : Type 0 where
  pub link : Link
  pub here : f d ≡ Some link
  pub why : m (grant_at d link) ⊎ IsTwice f (grant_at d link)

-- the family of c is dead: a code or refresh token under c is bad (RFC 6749, 4.1.2, 10.4 and 10.5)
pub record IsDead (f : Links) (m : Marks) (c : Dot) : Type 0 where
  pub member : Dot
  pub under : IsUnder f member c
  pub bad : IsBad f m member

-- ---- more links and more marks

-- each link of f is a link of g (own)
abbrev pub LinksWithin : Links → Links → Type 0
LinksWithin f g = (d : Dot) (l : Link) → f d ≡ Some l → g d ≡ Some l

-- each token that m marks is marked by n (own)
abbrev pub MarksWithin : Marks → Marks → Type 0
MarksWithin m n = (k : TokenId) → m k → n k
