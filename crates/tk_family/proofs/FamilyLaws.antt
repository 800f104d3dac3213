-- The laws of families, over links and marks: proofs of `specs/Laws.antt`. Key results:
--   IsParent-one, IsUnder-one    a dot has one parent at most, and is under one code at most
--   IsUnder-within               a dot stays under its code if there are more links
--   IsTwice-within, IsBad-within what was used twice, or is bad, stays so
--   IsDead-within                a dead family stays dead
--   IsTrail-no_ring              no walk comes back to where it began
use Rattle.std.proofs.Common.{◌≡◌, inl, inr, ◌+◌, true, Option, None, Some, List, [], ◌∷◌, length}
use Rattle.std.proofs.Common.{ap, sym, ◌∙◌, refl, arith}
use Rattle.tk_handle.specs.declared.dot.Dot.{Dot}
use Rattle.tk_handle.specs.declared.token_id.TokenId.{TokenId}
use Rattle.tk_family.specs.declared.link.Link.{Link}
use Rattle.tk_family.specs.declared.link.Link.TheVariants.{Code, Redeems, Rotates}
use Rattle.tk_family.specs.Families.{Links, Marks, named_by, grant_at, fits, rank, rank_of}
use Rattle.tk_family.specs.Families.{IsParent, IsPath, IsUnder, IsTrail, use_of, IsTwice, IsBad}
use Rattle.tk_family.specs.Families.{IsDead, LinksWithin, MarksWithin}

-- a dot has at most one parent
pub IsParent-one : (f : Links) (e p q : Dot) → IsParent f e p → IsParent f e q → p ≡ q
IsParent-one f e p q a b =
    let same : Some a.link ≡ Some b.link = sym a.here ∙ b.here in
    let link : a.link ≡ b.link = cc in
    let names : named_by a.link ≡ named_by b.link = ap named_by link in
    let both : Some p ≡ Some q = sym a.names ∙ names ∙ b.names in
    cc

-- a code has no parent
pub IsParent-code : (f : Links) (e p : Dot) → f e ≡ Some Code → IsParent f e p → ⊥
IsParent-code f e p code a =
    let same : Some a.link ≡ Some Code = sym a.here ∙ code in
    let link : a.link ≡ Code = cc in
    let names : None ≡ Some p = sym (ap named_by link) ∙ a.names in
    cc

-- a dot is under at most one code
pub IsPath-one : (f : Links) (d : Dot) (ps qs : List Dot) (b c : Dot) → IsPath f d ps b
    → IsPath f d qs c → b ≡ c
IsPath-one f d [] [] b c m n = sym m.0 ∙ n.0
IsPath-one f d [] (q ∷ qs) b c m n = absurd (IsParent-code f d q (ap f m.0 ∙ m.1) n.0.0)
IsPath-one f d (p ∷ ps) [] b c m n = absurd (IsParent-code f d p (ap f n.0 ∙ n.1) m.0.0)
IsPath-one f d (p ∷ ps) (q ∷ qs) b c m n =
    let same : p ≡ q = IsParent-one f d p q m.0.0 n.0.0 in
    IsPath-one f p ps qs b c (m.0.1, m.1) (rw same n.0.1, n.1)

-- a dot is under one code at most
pub IsUnder-one : (f : Links) (d b c : Dot) → IsUnder f d b → IsUnder f d c → b ≡ c
IsUnder-one f d b c m n = IsPath-one f d m.path n.path b c m.leads n.leads

-- the rank falls by one from a link to its parent's link
pub fits-rank : (l k : Link) → fits l k ≡ true → rank l ≡ rank k + 1
fits-rank Code k h = absurd (cc)
fits-rank (Redeems c) Code h = refl
fits-rank (Redeems c) (Redeems d) h = absurd (cc)
fits-rank (Redeems c) (Rotates d j) h = absurd (cc)
fits-rank (Rotates p g) Code h = absurd (cc)
fits-rank (Rotates p g) (Redeems d) h = grind (arith)
fits-rank (Rotates p g) (Rotates d j) h = grind (arith)

-- ---- what holds of some links holds of more

-- a parent stays one if there are more links
pub IsParent-within : (f g : Links) → LinksWithin f g → (e p : Dot) → IsParent f e p
    → IsParent g e p
IsParent-within f g w e p a = record {
  link = a.link;
  above = a.above;
  here = w e a.link a.here;
  names = a.names;
  there = w p a.above a.there;
  fitting = a.fitting;
}

-- a trail stays one if there are more links
pub IsTrail-within : (f g : Links) → LinksWithin f g → (d : Dot) (ps : List Dot) (e : Dot)
    → IsTrail f d ps e → IsTrail g d ps e
IsTrail-within f g w d [] e m = m
IsTrail-within f g w d (p ∷ ps) e m =
    (IsParent-within f g w d p m.0, IsTrail-within f g w p ps e m.1)

-- a dot stays under its code if there are more links
pub IsUnder-within : (f g : Links) → LinksWithin f g → (d c : Dot) → IsUnder f d c → IsUnder g d c
IsUnder-within f g w d c m = record {
  path = m.path;
  leads = (IsTrail-within f g w d m.path c m.leads.0, w c Code m.leads.1);
}

-- what a link uses it uses if there are more links
pub use_of-within : (f g : Links) → LinksWithin f g → (e : Dot) (o : Option Link) (k : TokenId)
    → f e ≡ o → use_of o ≡ Some k → use_of (g e) ≡ Some k
use_of-within f g w e None k at h = absurd (cc)
use_of-within f g w e (Some l) k at h = ap use_of (w e l at) ∙ h

-- a grant that was used twice stays so if there are more links
pub IsTwice-within : (f g : Links) → LinksWithin f g → (k : TokenId) → IsTwice f k → IsTwice g k
IsTwice-within f g w k t = record {
  one = t.one;
  two = t.two;
  apart = t.apart;
  by_one = use_of-within f g w t.one (f t.one) k refl t.by_one;
  by_two = use_of-within f g w t.two (f t.two) k refl t.by_two;
}

-- a bad dot stays bad if there are more links and marks
pub IsBad-within : (f g : Links) (m n : Marks) → LinksWithin f g → MarksWithin m n → (d : Dot)
    → IsBad f m d → IsBad g n d
IsBad-within f g m n w v d b = record {
  link = b.link;
  here = w d b.link b.here;
  why = elim b.why [
    | inl marked ↦ inl (v (grant_at d b.link) marked)
    | inr twice ↦ inr (IsTwice-within f g w (grant_at d b.link) twice)
  ];
}

-- a dead family stays dead
pub IsDead-within : (f g : Links) (m n : Marks) → LinksWithin f g → MarksWithin m n → (c : Dot)
    → IsDead f m c → IsDead g n c
IsDead-within f g m n w v c x = record {
  member = x.member;
  under = IsUnder-within f g w x.member c x.under;
  bad = IsBad-within f g m n w v x.member x.bad;
}

-- ---- the rank along a chain

-- a child's rank is one above its parent's
pub IsParent-rank : (f : Links) (e p : Dot) → IsParent f e p → rank_of (f e) ≡ rank_of (f p) + 1
IsParent-rank f e p a = ap rank_of a.here
    ∙ (fits-rank a.link a.above a.fitting ∙ ap (λ (o : Option Link). rank_of o + 1) (sym a.there))

-- a walk is as long as the rank falls
pub IsTrail-length : (f : Links) (d e : Dot) (ps : List Dot) → IsTrail f d ps e
    → length ps + rank_of (f e) ≡ rank_of (f d)
IsTrail-length f d e [] m =
    let at : rank_of (f d) ≡ rank_of (f e) = ap (λ (q : Dot). rank_of (f q)) m in omega (arith, at)
IsTrail-length f d e (p ∷ ps) m =
    let falls : rank_of (f d) ≡ rank_of (f p) + 1 = IsParent-rank f d p m.0 in
    let rest : length ps + rank_of (f e) ≡ rank_of (f p) = IsTrail-length f p e ps m.1 in
    omega (arith, falls, rest)

-- no walk comes back to where it began
pub IsTrail-no_ring : (f : Links) (d p : Dot) (ps : List Dot) → ¬ IsTrail f d (p ∷ ps) d
IsTrail-no_ring f d p ps m =
    let whole : length (p ∷ ps) + rank_of (f d) ≡ rank_of (f d) = IsTrail-length f d d (p ∷ ps) m in
    absurd (omega (arith, whole))

-- a chain to a code has as many parents as the rank of its first dot
pub IsPath-length : (f : Links) (d c : Dot) (ps : List Dot) → IsPath f d ps c
    → length ps ≡ rank_of (f d)
IsPath-length f d c ps m =
    let whole : length ps + rank_of (f c) ≡ rank_of (f d) = IsTrail-length f d c ps m.0 in
    let none : rank_of (f c) ≡ 0 = ap rank_of m.1 in
    omega (arith, whole, none)
