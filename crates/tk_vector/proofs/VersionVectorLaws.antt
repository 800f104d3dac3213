-- Raising and lowering an entry, by whether the entry is below the number. Key results:
--   raised_above, raised_within                   raising, by cases
--   lowered_none, lowered_below, lowered_within   lowering, by cases
--   entry_raised, entry_lowered, entry_empty      the entries afterwards
use Rattle.std.proofs.Common.{◌≡◌, ℕ, ◌<◌, ◌≤◌, ◌==◌, arith, ap, refl, ◌∙◌, Bool, true, false, cond}
use Rattle.std.proofs.Common.{if◌then◌else◌, max, min, Option, Some, None, unwrap_or, inl, inr}
use Rattle.std.specs.Ordering.{nat_cmp, is_lt, is_eq, eq_by_cmp}
use Rattle.std.specs.Cmp.{nat_cmp_total}
use Rattle.std.specs.FinMap as map
use Rattle.std.proofs.lemmas.Bool.{cases_lt}
use Rattle.std.proofs.lemmas.Bool.Decides.{nat_tests}
use Rattle.tk_vector.specs.VersionVector.{Vector, entry, raised, lowered}

-- two numbers compare as equal exactly if they are equal
pub number_tied : (a b : ℕ) → is_eq (nat_cmp a b) ≡ (a == b)
number_tied a b = grind (arith, nat_tests)

-- raising an entry that is lower sets it
pub raised_above : (v : Vector) (r n : ℕ) → entry v r < n → raised v r n ≡ map.insert v r n
raised_above v r n h = grind (arith, nat_tests)

-- raising an entry that isn't lower changes nothing
pub raised_within : (v : Vector) (r n : ℕ) → n ≤ entry v r → raised v r n ≡ v
raised_within v r n h = grind (arith, nat_tests)

-- a number that compares as less is less
pub lt_from_cmp : (x y : ℕ) (b : Bool) → b ≡ is_lt (nat_cmp x y) → b ≡ true → x < y
lt_from_cmp x y b e h = grind (arith, nat_tests)

-- a number that doesn't compare as less is not less
pub ge_from_cmp : (x y : ℕ) (b : Bool) → b ≡ is_lt (nat_cmp x y) → b ≡ false → y ≤ x
ge_from_cmp x y b e h = grind (arith, nat_tests)

-- the entry at a region that has one
pub entry_at : (v : Vector) (r n : ℕ) → map.get v r ≡ Some n → entry v r ≡ n
entry_at v r n h = ap (λ o. unwrap_or o 0) h

-- the entry of an absent region is 0
pub entry_absent : (v : Vector) (r : ℕ) → map.get v r ≡ None → entry v r ≡ 0
entry_absent v r h = ap (λ o. unwrap_or o 0) h

-- lowering to 0 removes the entry
pub lowered_none : (v : Vector) (r n : ℕ) → n ≡ 0 → lowered v r n ≡ map.remove v r
lowered_none v r n z = ap (λ k. lowered v r k) z

-- lowering an entry that is higher sets it
pub lowered_below : (v : Vector) (r n : ℕ) → 0 < n → n < entry v r
    → lowered v r n ≡ map.insert v r n
lowered_below v r n p h = grind (arith, nat_tests)

-- lowering an entry that isn't higher changes nothing
pub lowered_within : (v : Vector) (r n : ℕ) → 0 < n → entry v r ≤ n → lowered v r n ≡ v
lowered_within v r n p h = grind (arith, nat_tests)

-- the entries after an insertion
entry_insert : (v : Vector) (r n q : ℕ)
    → entry (map.insert v r n) q ≡ (if q == r then n else entry v q)
entry_insert v r n q = ap (λ o. unwrap_or o 0) (map.get-insert nat_cmp_total v r n q)
    ∙ inside (eq_by_cmp nat_cmp q r) (q == r) (number_tied q r) (map.get v q)
  where
    inside : (s t : Bool) → s ≡ t → (o : Option ℕ)
        → unwrap_or (cond s (Some n) o) 0 ≡ (if t then n else unwrap_or o 0)
    inside true t e o = rw (← e) refl
    inside false t e o = rw (← e) refl

-- the entries after a removal
entry_remove : (v : Vector) (r q : ℕ) → entry (map.remove v r) q ≡ (if q == r then 0 else entry v q)
entry_remove v r q = ap (λ o. unwrap_or o 0) (map.get-remove nat_cmp_total v r q)
    ∙ inside (eq_by_cmp nat_cmp q r) (q == r) (number_tied q r) (map.get v q)
  where
    inside : (s t : Bool) → s ≡ t → (o : Option ℕ)
        → unwrap_or (cond s None o) 0 ≡ (if t then 0 else unwrap_or o 0)
    inside true t e o = rw (← e) refl
    inside false t e o = rw (← e) refl

-- each entry of the empty vector is 0
pub entry_empty : (r : ℕ) → entry map.empty r ≡ 0
entry_empty r = ap (λ o. unwrap_or o 0) (map.get-empty nat_cmp r)

-- the entries of a raised vector
pub entry_raised : (v : Vector) (r n q : ℕ)
    → entry (raised v r n) q ≡ (if q == r then max n (entry v r) else entry v q)
entry_raised v r n q = elim (cases_lt (entry v r) n) [
  | inl lt ↦
      ap (λ w. entry w q) (raised_above v r n lt) ∙ entry_insert v r n q ∙ grind (arith, nat_tests)
  | inr ge ↦ ap (λ w. entry w q) (raised_within v r n ge)
      ∙ kept (entry v q) (entry v r) ge (λ same. ap (entry v) same)
]
  where
    kept : (x y : ℕ) → n ≤ y → (q ≡ r → x ≡ y) → x ≡ (if q == r then max n y else x)
    kept x y le same = grind (arith, nat_tests)

-- the entries of a lowered vector
pub entry_lowered : (v : Vector) (r n q : ℕ)
    → entry (lowered v r n) q ≡ (if q == r then min n (entry v r) else entry v q)
entry_lowered v r n q = elim (cases_lt 0 n) [
  | inl some ↦ elim (cases_lt n (entry v r)) [
    | inl lt ↦ ap (λ w. entry w q) (lowered_below v r n some lt) ∙ entry_insert v r n q
        ∙ grind (arith, nat_tests)
    | inr ge ↦ ap (λ w. entry w q) (lowered_within v r n some ge)
        ∙ kept (entry v q) (entry v r) ge (λ same. ap (entry v) same)
  ]
  | inr none ↦ ap (λ w. entry w q) (lowered_none v r n (omega arith)) ∙ entry_remove v r q
      ∙ grind (arith, nat_tests)
]
  where
    kept : (x y : ℕ) → y ≤ n → (q ≡ r → x ≡ y) → x ≡ (if q == r then min n y else x)
    kept x y le same = grind (arith, nat_tests)
