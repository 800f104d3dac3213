-- The pages after one of them was written. Key results:
--   cells_updated, pages_updated              a page is put, or written through
--   page_one, page_put, page_set, page_taken  a page is as `IsPage` says after a write
use Rattle.std.proofs.Common.{◌≡◌, ◌≢◌, ℕ, ◌+◌, ◌*◌, ◌-◌, ◌<◌, ◌≤◌, ◌==◌, ◌&&◌, max, Bool, true}
use Rattle.std.proofs.Common.{false, cond, length, List, Option, Some, None, IsSome, is_some}
use Rattle.std.proofs.Common.{Result, Ok, Err, OnOk, OnErr, refl, sym, ap, subst, ◌∙◌, inl, inr}
use Rattle.std.proofs.Common.{arith, get_or, ne_eqb as not_at, eqb-true as nat_same}
use Rattle.std.proofs.lemmas.Bool.{cases_Bool, cond-true, cond-false}
use Rattle.std.specs.Ordering.{eq_by_cmp}
use Rattle.std.specs.BTreeMap.{get, is_at}
use Rattle.std.specs.Map.{lookup}
use Rattle.tk_handle.specs.declared.dot.Dot.{Dot}
use Rattle.tk_handle.specs.Dot.{dot_cmp}
use Rattle.tk_handle.specs.Ranges.{max_serial}
use mathlib.Core.Bool.{false≢true}
use Rattle.tk_dots.specs.Pages.{span, Slots, Pages, slot_in, cell, EndsFull, IsPage, IsPages}
use Rattle.tk_dots.proofs.PlaceLaws.{tied_same}
use Rattle.tk_handle.proofs.TestLaws.{tied}
use Rattle.tk_dots.proofs.CellLaws.{nat_is}

-- two dots that differ do so whichever is first
turned : (k q : Dot) → is_at (dot_cmp k) q ≡ false → eq_by_cmp dot_cmp q k ≡ false
turned k q off = elim (cases_Bool (eq_by_cmp dot_cmp q k)) [
  | inl same ↦ absurd (false≢true (sym off ∙ tied_same k q (sym (tied q k same))))
  | inr apart ↦ apart
]

module _ {X : Type 0} (m n : Pages X) (k0 : Dot) (w : Option (Slots X))
    (updates : (q : Dot) → get dot_cmp n q ≡ cond (is_at (dot_cmp k0) q) w (get dot_cmp m q)) where
  -- the cells after one page was written
  pub cells_updated : (at : ℕ) (o : Option X)
      → ((j : ℕ) → slot_in w j ≡ cond (j == at) o (cell m k0 j))
      → (k : Dot) (j : ℕ) → cell n k j ≡ cond (eq_by_cmp dot_cmp k k0 && (j == at)) o (cell m k j)
  cells_updated at o written k j = elim (cases_Bool (is_at (dot_cmp k0) k)) [
    | inl same ↦
        let is : k0 ≡ k = tied k0 k same in
        ap (λ (p : Option (Slots X)). slot_in p j) (updates k ∙ cond-true _ _ _ same) ∙ written j
        ∙ ap (λ (q : Dot). cond (j == at) o (cell m q j)) is
        ∙ ap (λ (b : Bool). cond (b && (j == at)) o (cell m k j)) (sym (tied_same k k0 (sym is)))
    | inr apart ↦
        ap (λ (p : Option (Slots X)). slot_in p j) (updates k ∙ cond-false _ _ _ apart)
        ∙ ap (λ (b : Bool). cond (b && (j == at)) o (cell m k j)) (sym (turned k0 k apart))
  ]

  -- pages stay pages after one was written
  pub pages_updated : IsPages m → ((v : Slots X) → w ≡ Some v → IsPage k0 v.items) → IsPages n
  pages_updated pages here k v at = elim (cases_Bool (is_at (dot_cmp k0) k)) [
    | inl same ↦ subst (λ (q : Dot). IsPage q v.items) (tied k0 k same)
        (here v (sym (updates k ∙ cond-true _ _ _ same) ∙ at))
    | inr apart ↦ pages k v (sym (updates k ∙ cond-false _ _ _ apart) ∙ at)
  ]

-- a page is written with the values that it had: no cell changes
pub cells_kept : {X : Type 0} (m n : Pages X) (k0 : Dot) (w : Slots X)
    → ((q : Dot) → get dot_cmp n q ≡ cond (is_at (dot_cmp k0) q) (Some w) (get dot_cmp m q))
    → ((j : ℕ) → get_or w.items j None ≡ cell m k0 j) → (k : Dot) (j : ℕ) → cell n k j ≡ cell m k j
cells_kept {X} m n k0 w updates same k j = elim (cases_Bool (is_at (dot_cmp k0) k)) [
  | inl here ↦ ap (λ (p : Option (Slots X)). slot_in p j) (updates k ∙ cond-true _ _ _ here)
      ∙ same j ∙ ap (λ (q : Dot). cell m q j) (tied k0 k here)
  | inr apart ↦ ap (λ (p : Option (Slots X)). slot_in p j) (updates k ∙ cond-false _ _ _ apart)
]

-- a test that failed fails again
cond_twice : {A : Type 0} (b : Bool) (x y z : A) → cond b x (cond b y z) ≡ cond b x z
cond_twice true x y z = refl
cond_twice false x y z = refl

-- a page that was written is taken out
pub taken_out : {X : Type 0} (m l n : Pages X) (k0 : Dot) (w : Slots X)
    → ((q : Dot) → get dot_cmp l q ≡ cond (is_at (dot_cmp k0) q) (Some w) (get dot_cmp m q))
    → ((q : Dot) → get dot_cmp n q ≡ cond (is_at (dot_cmp k0) q) None (get dot_cmp l q)) → (q : Dot)
    → get dot_cmp n q ≡ cond (is_at (dot_cmp k0) q) None (get dot_cmp m q)
taken_out m l n k0 w there gone q = gone q ∙ ap (cond (is_at (dot_cmp k0) q) None) (there q)
    ∙ cond_twice (is_at (dot_cmp k0) q) None (Some w) (get dot_cmp m q)

-- equal look-ups
pub same_lookups : {X : Type 0} (m n : Pages X) → n.entries ≡ m.entries → (q : Dot)
    → get dot_cmp n q ≡ get dot_cmp m q
same_lookups {X} m n e q = ap (λ (es : List (Dot × Slots X)). lookup (is_at (dot_cmp q)) es) e

-- what follows from success and from an error holds
pub on_both : {A E : Type 0} (r : Result A E) (P Q S R : Type 0) → OnOk r P → OnOk r Q → OnErr r S
    → (P → Q → R) → (S → R) → R
on_both (Ok a) P Q S R p q s f g = f p q
on_both (Err e) P Q S R p q s f g = g s

module _ {X : Type 0} (k : Dot) where
  -- a page of one value
  pub page_one : (os : List (Option X)) (at : ℕ) (x : X) → at < span
      → 0 < (k.serial - 1) * span + at → (k.serial - 1) * span + at ≤ max_serial
      → length os ≡ at + 1
      → ((j : ℕ) → get_or os j None ≡ cond (j == at) (Some x) None) → IsPage k os
  page_one os at x below low high len is = record {
    some = omega (arith, len);
    full = λ some. ap is_some
        (ap (λ (i : ℕ). get_or os i None) (last (length os) len) ∙ is at
        ∙ cond-true _ _ _ (nat_is at at refl));
    short = omega (arith, len, below);
    high = omega (arith, len, high);
    low = λ first.
        is 0 ∙ cond-false _ _ _ (not_at 0 at (λ same. absurd (omega (arith, low, first, same))));
  }
    where
      last : (n : ℕ) → n ≡ at + 1 → n - 1 ≡ at
      last n e = omega (arith, e)

  module _ (old os : List (Option X)) (at : ℕ) (page : IsPage k old) where
    -- the last place, at another place than the one that was written
    kept : (o : Option X) → ((j : ℕ) → get_or os j None ≡ cond (j == at) o (get_or old j None))
        → (i : ℕ) → i ≢ at → i ≡ length old - 1 → IsSome (get_or os i None)
    kept o is i other last = subst IsSome
        (sym (is i ∙ cond-false _ _ _ (test i other) ∙ ap (λ (j : ℕ). get_or old j None) last))
        (page.full page.some)
      where
        test : (i : ℕ) → i ≢ at → (i == at) ≡ false
        test i ne = elim (cases_Bool (i == at)) [
          | inl same ↦ absurd (ne (nat_same i at same))
          | inr apart ↦ apart
        ]

    -- a page with one more value
    pub page_put : (x : X) → at < span → 0 < (k.serial - 1) * span + at
        → (k.serial - 1) * span + at ≤ max_serial → length os ≡ max (length old) (at + 1)
        → ((j : ℕ) → get_or os j None ≡ cond (j == at) (Some x) (get_or old j None)) → IsPage k os
    page_put x below low high len is = record {
      some = omega (arith, len);
      full = λ some. elim (cases_Bool ((length os - 1) == at)) [
        | inl same ↦ ap is_some (is (length os - 1) ∙ cond-true _ _ _ same)
        | inr apart ↦
            let other : length os - 1 ≢ at =
            (λ e. absurd (false≢true (sym apart ∙ nat_is (length os - 1) at e))) in
            kept (Some x) is (length os - 1) other (omega (arith, len, other))
      ];
      short = let s = page.short in omega (arith, len, below, s);
      high = let h = page.high in omega (arith, len, high, h);
      low = λ first. is 0
          ∙ cond-false _ _ _ (not_at 0 at (λ same. absurd (omega (arith, low, first, same))))
          ∙ page.low first;
    }

    -- a page in which a value was set where one was
    pub page_set : (x : X) → length os ≡ length old
        → ((j : ℕ) → get_or os j None
        ≡ cond (j == at) (cond (is_some (get_or old at None)) (Some x) None) (get_or old j None))
        → IsPage k os
    page_set x len is = record {
      some = let s = page.some in omega (arith, len, s);
      full = λ some. elim (cases_Bool ((length os - 1) == at)) [
        | inl same ↦
            let e : at ≡ length old - 1 =
            sym (nat_same (length os - 1) at same) ∙ ap (λ (i : ℕ). i - 1) len in
            let there : is_some (get_or old at None) ≡ true =
            subst (λ (i : ℕ). IsSome (get_or old i None)) (sym e) (page.full page.some) in
            ap is_some (is (length os - 1) ∙ cond-true _ _ _ same ∙ cond-true _ _ _ there)
        | inr apart ↦
            let other : length os - 1 ≢ at =
            (λ e. absurd (false≢true (sym apart ∙ nat_is (length os - 1) at e))) in
            kept (cond (is_some (get_or old at None)) (Some x) None) is (length os - 1) other
            (ap (λ (i : ℕ). i - 1) len)
      ];
      short = let s = page.short in omega (arith, len, s);
      high = let h = page.high in omega (arith, len, h);
      low = λ first. is 0 ∙ none_set (0 == at) (nat_same 0 at) (page.low first);
    }
      where
        none_set : (b : Bool) → (b ≡ true → 0 ≡ at) → get_or old 0 None ≡ None
            → cond b (cond (is_some (get_or old at None)) (Some x) None) (get_or old 0 None) ≡ None
        none_set true same none = ap (λ (o : Option X). cond (is_some o) (Some x) None)
            (ap (λ (j : ℕ). get_or old j None) (sym (same refl)) ∙ none)
        none_set false same none = none

    -- a page without a value, and without the empty end
    pub page_taken : length os ≤ length old
        → ((j : ℕ) → get_or os j None ≡ cond (j == at) None (get_or old j None)) → EndsFull os
        → 0 < length os → IsPage k os
    page_taken len is full some = record {
      some = some;
      full = full;
      short = let s = page.short in omega (arith, len, s);
      high = let h = page.high in omega (arith, len, h);
      low = λ first. is 0 ∙ none_taken (0 == at) (page.low first);
    }
      where
        none_taken : (b : Bool) → get_or old 0 None ≡ None → cond b None (get_or old 0 None) ≡ None
        none_taken true none = refl
        none_taken false none = none
