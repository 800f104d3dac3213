-- Laws of dots and of lists of dots. Key results:
--   dot_eq-true, dot_eq-same, dot_eq-apart   the test finds equal dots, and no others
--   has-cons, has-append                     where a dot of a list is
--   has-here, has-there, has-left, has-right the list that a dot is in
--   IsDistinct-append                        two distinct lists without a common dot
use Rattle.std.proofs.Common.{◌≡◌, ◌≢◌, ◌⊎◌, inl, inr, true, false, List, [], ◌∷◌, ◌++◌, ap, sym}
use Rattle.std.proofs.Common.{◌∙◌, refl, append_assoc, append-nil}
use Rattle.std.proofs.lemmas.Bool.{true≢false, false_from_ne_true, or_cases, or_left}
use Rattle.std.proofs.lemmas.Bool.{or_right, or_from}
use Rattle.std.proofs.lemmas.List.Folds.{list_any-append}
use Rattle.std.proofs.lemmas.Map.Keys.{IsDistinct-head, IsDistinct-tail, IsDistinct-push}
use Rattle.std.specs.List.{IsDistinct, AllByRecursion}
use Rattle.std.specs.Cmp.{IsEquivalence, eq_by_cmp_equiv, Equal-is}
use Rattle.tk_handle.specs.declared.dot.Dot.{Dot}
use Rattle.tk_handle.specs.Dot.{dot_cmp, dot_cmp_total, dot_cmp-IsAntisymmetric}
use Rattle.tk_family.specs.Dots.{dot_eq, has}
pub use Rattle.tk_dots.proofs.PlaceLaws.{cases_dots}

-- equality of dots is an equivalence
pub dots_equiv : IsEquivalence dot_eq
dots_equiv = eq_by_cmp_equiv dot_cmp_total

-- ---- equality, and membership in lists

-- dots that the test finds equal are equal
pub dot_eq-true : (a b : Dot) → dot_eq a b ≡ true → a ≡ b
dot_eq-true a b h = dot_cmp-IsAntisymmetric a b ((Equal-is (dot_cmp a b)).0 h)

-- a dot equals itself by the test
pub dot_eq-same : (a : Dot) → dot_eq a a ≡ true
dot_eq-same a = dots_equiv.refl a

-- the test finds different dots different
pub dot_eq-apart : (a b : Dot) → a ≢ b → dot_eq a b ≡ false
dot_eq-apart a b ne = false_from_ne_true (dot_eq a b) (λ same. ne (dot_eq-true a b same))

-- a dot of a list is its first, or one of the others
pub has-cons : (x : Dot) (xs : List Dot) (q : Dot) → has (x ∷ xs) q ≡ true
    → (q ≡ x) ⊎ (has xs q ≡ true)
has-cons x xs q h = elim (or_cases (dot_eq q x) (has xs q) h) [
  | inl here ↦ inl (dot_eq-true q x here)
  | inr more ↦ inr more
]

-- a list has its first dot
pub has-here : (x : Dot) (xs : List Dot) → has (x ∷ xs) x ≡ true
has-here x xs = or_left (dot_eq x x) (has xs x) (dot_eq-same x)

-- a list has the dots behind its first
pub has-there : (x : Dot) (xs : List Dot) (q : Dot) → has xs q ≡ true → has (x ∷ xs) q ≡ true
has-there x xs q h = or_right (dot_eq q x) (has xs q) h

-- a dot of two lists is in one of both
pub has-append : (a b : List Dot) (q : Dot) → has (a ++ b) q ≡ true
    → (has a q ≡ true) ⊎ (has b q ≡ true)
has-append a b q h = or_cases (has a q) (has b q) (sym (list_any-append (dot_eq q) a b) ∙ h)

-- two lists have the dots of the first
pub has-left : (a b : List Dot) (q : Dot) → has a q ≡ true → has (a ++ b) q ≡ true
has-left a b q h = list_any-append (dot_eq q) a b ∙ or_left (has a q) (has b q) h

-- two lists have the dots of the second
pub has-right : (a b : List Dot) (q : Dot) → has b q ≡ true → has (a ++ b) q ≡ true
has-right a b q h = list_any-append (dot_eq q) a b ∙ or_right (has a q) (has b q) h

-- a dot that differs from each of a list is not in the list
pub list_none : (y : Dot) (ys : List Dot) → AllByRecursion (λ z. dot_eq y z ≡ false) ys
    → has ys y ≡ false
list_none y [] h = refl
list_none y (z ∷ zs) h = or_from (dot_eq y z) (has zs y) h.0 (list_none y zs h.1)

-- a list has each dot that equals its first
has-cons-same : (x : Dot) (b : List Dot) (z : Dot) → x ≡ z → has (x ∷ b) z ≡ true
has-cons-same x b z same = or_left (dot_eq z x) (has b z) (ap (dot_eq z) same ∙ dot_eq-same z)

-- two distinct lists without a common dot are distinct together
pub IsDistinct-append : (a b : List Dot) → IsDistinct dot_eq a → IsDistinct dot_eq b
    → ((q : Dot) → has a q ≡ true → has b q ≡ true → ⊥) → IsDistinct dot_eq (a ++ b)
IsDistinct-append a [] da db apart = rw append-nil da
IsDistinct-append a (y ∷ ys) da db apart =
    let fresh : has a y ≡ false =
    false_from_ne_true (has a y) (λ here. apart y here (has-here y ys)) in
    let rest_apart : (q : Dot) → has (a ++ y ∷ []) q ≡ true → has ys q ≡ true → ⊥ = λ q left right.
    elim (has-append a (y ∷ []) q left) [
      | inl in_a ↦ apart q in_a (has-there y ys q right)
      | inr is_y ↦ elim (has-cons y [] q is_y) [
        | inl same ↦
            let none : has ys y ≡ false = list_none y ys (IsDistinct-head dot_eq y ys db) in
            true≢false (sym right ∙ (ap (has ys) same ∙ none))
        | inr none ↦ absurd (true≢false (sym none))
      ]
    ] in
    rw (← append_assoc a (y ∷ []) ys)
    (IsDistinct-append (a ++ y ∷ []) ys (IsDistinct-push dots_equiv a y da fresh)
    (IsDistinct-tail dot_eq y ys db) rest_apart)

-- an element in the middle of a list of distinct dots is not among those before it
pub IsDistinct-middle : (a : List Dot) (x : Dot) (b : List Dot) → IsDistinct dot_eq (a ++ x ∷ b)
    → has a x ≡ false
IsDistinct-middle [] x b d = refl
IsDistinct-middle (z ∷ zs) x b d =
    let apart : has (zs ++ x ∷ b) z ≡ false =
    list_none z (zs ++ x ∷ b) (IsDistinct-head dot_eq z (zs ++ x ∷ b) d) in
    let ne : x ≢ z =
    λ same. true≢false (sym (has-right zs (x ∷ b) z (has-cons-same x b z same)) ∙ apart) in
    or_from (dot_eq x z) (has zs x) (dot_eq-apart x z ne)
    (IsDistinct-middle zs x b (IsDistinct-tail dot_eq z (zs ++ x ∷ b) d))
