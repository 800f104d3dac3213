-- The dots between the least and the greatest, and keys that end in a dot. Key results:
--   from_first, to_last   each dot in range is between the least and the greatest
--   between               what lies between two keys that begin alike begins so, too
use Rattle.std.proofs.Common.{◌≡◌, ◌⊎◌, inl, inr, ℕ, ◌≤◌, ◌<◌, true, not, sym, ap, ◌∙◌, refl, arith}
use Rattle.std.proofs.lemmas.Bool.{true≢false}
use Rattle.std.proofs.lemmas.Cmp.{ranked, by_ranked}
use Rattle.std.specs.Ordering.{nat_cmp, ordering_then, ordering_reverse, is_lt, is_le}
use Rattle.std.specs.declared.cmp.Ordering.{Ordering}
use Rattle.std.specs.declared.cmp.Ordering.TheVariants.{Less, Equal, Greater}
use Rattle.tk_handle.specs.declared.dot.Dot.{Dot}
use Rattle.tk_handle.specs.Dot.{IsDot, dot_cmp, least_dot, greatest_dot}

-- a number that isn't above another is below it or equal
pub number_le : (a b : ℕ) → a ≤ b → (nat_cmp a b ≡ Less) ⊎ (nat_cmp a b ≡ Equal)
number_le a b le = by_ranked (a < b) (a ≡ b) (b < a) (nat_cmp a b) (ranked a b (nat_cmp a b) refl)
    (λ o _. inl o) (λ o _. inr o) (λ _ h. absurd (apart a b le h))
  where
    apart : (a b : ℕ) → a ≤ b → ¬ (b < a)
    apart a b le h = omega arith

-- a dot isn't above another if neither number is
dot_le : (a b : Dot) → a.region ≤ b.region → a.serial ≤ b.serial → is_le (dot_cmp a b) ≡ true
dot_le a b r s = elim (number_le a.region b.region r) [
  | inl less ↦ ap (λ o. is_le (ordering_then o (nat_cmp a.serial b.serial))) less
  | inr same ↦ ap (λ o. is_le (ordering_then o (nat_cmp a.serial b.serial))) same
      ∙ elim (number_le a.serial b.serial s) [
        | inl less ↦ ap is_le less
        | inr equal ↦ ap is_le equal
      ]
]

-- what isn't past an end isn't below it the other way round
pub not_past : (o : Ordering) → is_le o ≡ true → not (is_lt (ordering_reverse o)) ≡ true
not_past Less h = refl
not_past Equal h = refl
not_past Greater h = h

-- what is not below the first and not above the last of two that begin alike begins so, too
pub between : (o r t : Ordering) → is_le (ordering_then o r) ≡ true
    → not (is_lt (ordering_then o t)) ≡ true → o ≡ Equal
between Less r t h i = absurd (true≢false (sym i))
between Equal r t h i = refl
between Greater r t h i = absurd (true≢false (sym h))

-- the least dot is above none
pub from_first : (q : Dot) → IsDot q → is_le (dot_cmp least_dot q) ≡ true
from_first q h = dot_le least_dot q (some h.0.0) (some h.1.0)
  where
    some : {n : ℕ} → 0 < n → 1 ≤ n
    some h = h

-- the greatest dot is below none
pub to_last : (q : Dot) → IsDot q → is_le (dot_cmp q greatest_dot) ≡ true
to_last q h = dot_le q greatest_dot h.0.1 h.1.1
