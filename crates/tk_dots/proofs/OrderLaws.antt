-- The order of dots is that of their pages, and on one page that of their places. Key results:
--   Before                  a dot is below another: the two numbers, without the test
--   before, is_before       the test finds a dot below another exactly if it is Before it
--   not_lt                  a dot that is not below another equals it, or is above it
--   rises                   a dot above another is on a later page, or later on one page
--   page_in, place_in       the page and the place of a dot that is made of both
use Rattle.std.proofs.Common.{◌≡◌, ℕ, ◌+◌, ◌/◌, ◌%◌, ◌<◌, ◌≤◌, true, false, refl, sym, ap, ◌∙◌}
use Rattle.std.proofs.Common.{inl, inr, ◌⊎◌, arith}
use Rattle.std.proofs.lemmas.Bool.{cases_lt, false_from_ne_true}
use Rattle.std.proofs.lemmas.Bool.Decides.{nat_tests}
use Rattle.std.specs.Ordering.{is_lt, is_gt, ordering_reverse}
use Rattle.std.specs.declared.cmp.Ordering.{Ordering}
use Rattle.std.specs.declared.cmp.Ordering.TheVariants.{Less, Equal, Greater}
use Rattle.std.specs.BTreeMap.Range.{IsLeBy}
use Rattle.tk_handle.specs.declared.dot.Dot.{Dot}
use Rattle.tk_handle.specs.Dot.{dot_cmp, dot_cmp_total}
use mathlib.Core.Bool.{false≢true}
use Rattle.tk_dots.specs.Pages.{span, page_of, dot_in}
use Rattle.tk_dots.proofs.PlaceLaws.{dot_is}

-- a dot is below another
abbrev pub Before : Dot → Dot → Type 0
Before a b = (a.region < b.region) ⊎ ((a.region ≡ b.region) × (a.serial < b.serial))

-- a dot that the test finds below another is Before it
pub before : (a b : Dot) → is_lt (dot_cmp a b) ≡ true → Before a b
before a b h = elim (cases_lt a.region b.region) [
  | inl lt ↦ inl lt
  | inr ge ↦ inr (grind (arith, nat_tests), grind (arith, nat_tests))
]

-- the test finds a dot that is Before another below it
pub is_before : (a b : Dot) → Before a b → is_lt (dot_cmp a b) ≡ true
is_before a b (inl lt) = grind (arith, nat_tests)
is_before a b (inr h) = let e = h.0 in let f = h.1 in grind (arith, nat_tests)

-- the test doesn't find a dot that isn't Before another below it
pub not_before : (a b : Dot) → (Before a b → ⊥) → is_lt (dot_cmp a b) ≡ false
not_before a b h = false_from_ne_true _ (λ t. h (before a b t))

-- an order is Less the other way round exactly if it is Greater
lt_reverse : (o : Ordering) → is_lt (ordering_reverse o) ≡ is_gt o
lt_reverse Less = refl
lt_reverse Equal = refl
lt_reverse Greater = refl

-- a dot that is not above another has that one not below it
pub le_not_lt : (k q : Dot) → IsLeBy dot_cmp k q → is_lt (dot_cmp q k) ≡ false
le_not_lt k q h = ap is_lt (dot_cmp_total.antisymm q k) ∙ lt_reverse (dot_cmp k q) ∙ h

-- a dot that is made of a page and a place is on that page
pub page_in : (k : Dot) (i : ℕ) → 0 < k.serial → i < span → page_of (dot_in k i) ≡ k
page_in k i some below = dot_is (page_of (dot_in k i)) k refl (omega arith)

-- a dot that is made of a page and a place is at that place
pub place_in : (k : Dot) (i : ℕ) → i < span → (dot_in k i).serial % span ≡ i
place_in k i below = omega arith

-- a dot above another is at a later place of its page, or on a later page
pub rises : (d q : Dot) → is_lt (dot_cmp d q) ≡ true
    → ((page_of q ≡ page_of d) × (d.serial % span + 1 ≤ q.serial % span))
    ⊎ Before (page_of d) (page_of q)
rises d q h = elim (before d q h) [
  | inl lt ↦ inr (inl lt)
  | inr e ↦ elim (cases_lt (d.serial / span) (q.serial / span)) [
    | inl lt ↦ inr (inr (e.0, omega (arith, lt)))
    | inr ge ↦
        let same : q.serial / span ≡ d.serial / span = omega (arith, ge, e.1) in
        inl (
          dot_is (page_of q) (page_of d) (sym e.0) (ap (λ (n : ℕ). n + 1) same),
          omega (arith, same, e.1),
        )
  ]
]

-- a dot that is not below another equals it, or is above it
pub not_lt : (k key : Dot) → is_lt (dot_cmp k key) ≡ false → (k ≡ key) ⊎ Before key k
not_lt k key h = elim (cases_lt key.region k.region) [
  | inl lt ↦ inr (inl lt)
  | inr ge ↦ elim (cases_lt key.serial k.serial) [
    | inl lt ↦ elim (cases_lt k.region key.region) [
      | inl less ↦ absurd (false≢true (sym h ∙ is_before k key (inl less)))
      | inr more ↦ inr (inr (omega (arith, ge, more), lt))
    ]
    | inr le ↦ elim (cases_lt k.region key.region) [
      | inl less ↦ absurd (false≢true (sym h ∙ is_before k key (inl less)))
      | inr more ↦ elim (cases_lt k.serial key.serial) [
        | inl less ↦
            absurd (false≢true (sym h ∙ is_before k key (inr (omega (arith, ge, more), less))))
        | inr most ↦ inl (dot_is k key (omega (arith, ge, more)) (omega (arith, le, most)))
      ]
    ]
  ]
]
