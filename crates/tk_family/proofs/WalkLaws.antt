-- The walk finds the code that a dot is under: proof of `walk_finds`. Key results:
--   code_of-sound      the code that is found is the one that the dot is under
--   code_of-complete   the code that a dot is under is found
use Rattle.std.proofs.Common.{◌≡◌, inl, inr, ◌+◌, ◌≤◌, ℕ, zero, suc, true, false, Option, None}
use Rattle.std.proofs.Common.{Some, List, [], ◌∷◌, ap, sym, ◌∙◌, refl, arith, option_and_then}
use Rattle.std.proofs.lemmas.Bool.{true≢false, cases_Bool, cond-true, cond-false}
use Rattle.std.proofs.lemmas.Bool.{false_from_ne_true}
use Rattle.tk_handle.specs.declared.dot.Dot.{Dot}
use Rattle.tk_family.specs.declared.link.Link.{Link}
use Rattle.tk_family.specs.declared.link.Link.TheVariants.{Code, Redeems, Rotates}
use Rattle.tk_family.specs.Families.{Links, named_by, fits, rank_of, IsParent, IsPath, IsUnder}
use Rattle.tk_family.specs.Walks.{fits_over, is_code_link, parent_named, parent_by, parent_of}
use Rattle.tk_family.specs.Walks.{code_by, code_of}
use Rattle.tk_family.proofs.FamilyLaws.{IsParent-rank, IsParent-code}
use Rattle.tk_family.proofs.Columns.{fits_over-some as over_some}

-- for `parent_of-sound`: by the dot that the link names
named-sound : (f : Links) (d : Dot) (l : Link) (o : Option Dot) (p : Dot) → f d ≡ Some l
    → named_by l ≡ o → parent_named f l o ≡ Some p → IsParent f d p
named-sound f d l None p at names h = absurd (cc)
named-sound f d l (Some r) p at names h = elim (cases_Bool (fits_over l (f r))) [
  | inl fit ↦
      let both : Some r ≡ Some p = sym (cond-true _ _ _ fit) ∙ h in
      let same : r ≡ p = cc in
      let k : (k : Link) × (f r ≡ Some k) × (fits l k ≡ true) = over_some l (f r) fit in
      record {
        link = l;
        above = k.0;
        here = at;
        names = names ∙ both;
        there = ap f (sym same) ∙ k.1;
        fitting = k.2;
      }
  | inr none ↦ absurd (let clash : None ≡ Some p = sym (cond-false _ _ _ none) ∙ h in cc)
]

-- for `parent_of-sound`: by the link at the dot
by-sound : (f : Links) (d : Dot) (o : Option Link) (p : Dot) → f d ≡ o → parent_by f o ≡ Some p
    → IsParent f d p
by-sound f d None p at h = absurd (cc)
by-sound f d (Some l) p at h = named-sound f d l (named_by l) p at refl h

-- the parent that is found is the parent
pub parent_of-sound : (f : Links) (d p : Dot) → parent_of f d ≡ Some p → IsParent f d p
parent_of-sound f d p h = by-sound f d (f d) p refl h

-- the parent is found
pub parent_of-complete : (f : Links) (d p : Dot) → IsParent f d p → parent_of f d ≡ Some p
parent_of-complete f d p a = ap (parent_by f) a.here
    ∙ (ap (parent_named f a.link) a.names
    ∙ cond-true _ _ _ (ap (fits_over a.link) a.there ∙ a.fitting))

-- a link that is a code's, by the test, is Code
is_code-sound : (o : Option Link) → is_code_link o ≡ true → o ≡ Some Code
is_code-sound None h = absurd (true≢false (sym h))
is_code-sound (Some Code) h = refl
is_code-sound (Some (Redeems d)) h = absurd (true≢false (sym h))
is_code-sound (Some (Rotates d g)) h = absurd (true≢false (sym h))

-- a code is under itself
here-sound : (f : Links) (d c : Dot) → is_code_link (f d) ≡ true → Some d ≡ Some c → IsUnder f d c
here-sound f d c is h = let same : d ≡ c = cc in
    record { path = []; leads = (same, ap f (sym same) ∙ is_code-sound (f d) is) }

-- a dot is under the code that is found from its parent
step-sound : (f : Links) (n : ℕ) (d c : Dot) (o : Option Dot)
    → ((q : Dot) → code_by f n q ≡ Some c → IsUnder f q c) → parent_of f d ≡ o
    → option_and_then (code_by f n) o ≡ Some c → IsUnder f d c
step-sound f n d c None rest at h = absurd (cc)
step-sound f n d c (Some p) rest at h = let u : IsUnder f p c = rest p h in
    record { path = p ∷ u.path; leads = ((parent_of-sound f d p at, u.leads.0), u.leads.1) }

-- a code that is found in some steps is the one that the dot is under
pub code_by-sound : (f : Links) (n : ℕ) (d c : Dot) → code_by f n d ≡ Some c → IsUnder f d c
code_by-sound f zero d c h = elim (cases_Bool (is_code_link (f d))) [
  | inl is ↦ here-sound f d c is (sym (cond-true _ _ _ is) ∙ h)
  | inr none ↦ absurd (let clash : None ≡ Some c = sym (cond-false _ _ _ none) ∙ h in cc)
]
code_by-sound f (suc n) d c h = elim (cases_Bool (is_code_link (f d))) [
  | inl is ↦ here-sound f d c is (sym (cond-true _ _ _ is) ∙ h)
  | inr none ↦ step-sound f n d c (parent_of f d) (λ q e. code_by-sound f n q c e) refl
      (sym (cond-false _ _ _ none) ∙ h)
]

-- a code ends the walk at once
pub code_here : (f : Links) (n : ℕ) (d : Dot) → is_code_link (f d) ≡ true → code_by f n d ≡ Some d
code_here f zero d is = cond-true _ _ _ is
code_here f (suc n) d is = cond-true _ _ _ is

-- a dot with a parent is no code
not_code : (f : Links) (d p : Dot) → IsParent f d p → is_code_link (f d) ≡ true → ⊥
not_code f d p a is = IsParent-code f d p (is_code-sound (f d) is) a

-- a code that is found from the parent is found from the dot in one step more
code_more : (f : Links) (n : ℕ) (d p c : Dot) → IsParent f d p → 1 ≤ n
    → ((m : ℕ) → m + 1 ≡ n → code_by f m p ≡ Some c) → code_by f n d ≡ Some c
code_more f zero d p c a low rest = absurd (omega arith)
code_more f (suc m) d p c a low rest =
    let none : is_code_link (f d) ≡ false =
    false_from_ne_true (is_code_link (f d)) (not_code f d p a) in
    cond-false _ _ _ none
    ∙ (ap (option_and_then (code_by f m)) (parent_of-complete f d p a) ∙ rest m (omega arith))

-- the code at the end of a path is found in as many steps as the rank
pub code_by-complete : (f : Links) (n : ℕ) (d : Dot) (ps : List Dot) (c : Dot) → IsPath f d ps c
    → rank_of (f d) ≤ n → code_by f n d ≡ Some c
code_by-complete f n d [] c m low =
    code_here f n d (ap is_code_link (ap f m.0 ∙ m.1)) ∙ ap (λ (x : Dot). Some x) m.0
code_by-complete f n d (p ∷ ps) c m low =
    let r : rank_of (f d) ≡ rank_of (f p) + 1 = IsParent-rank f d p m.0.0 in
    code_more f n d p c m.0.0 (omega arith)
    (λ k e. code_by-complete f k p ps c (m.0.1, m.1) (omega arith))

-- ---- the code that a dot is under, both ways

-- the code that is found is the one that the dot is under
pub code_of-sound : (f : Links) (d c : Dot) → code_of f d ≡ Some c → IsUnder f d c
code_of-sound f d c h = code_by-sound f (rank_of (f d)) d c h

-- the code that a dot is under is found
pub code_of-complete : (f : Links) (d c : Dot) → IsUnder f d c → code_of f d ≡ Some c
code_of-complete f d c u = code_by-complete f (rank_of (f d)) d u.path c u.leads (omega arith)
