-- A walk over a map of values and marks goes to the next dot on a page or in a run. Key results:
--   next_mark, next_place, next_mark_alone, next_none   the next dot
--   passes_is                                           the next value
--   last_is                                             the greatest serial of a region
use Rattle.std.proofs.Common.{◌≡◌, ℕ, ◌≤◌, ◌<◌, max, arith, true, false, Option, Some, None, IsSome}
use Rattle.std.proofs.Common.{is_some, refl, sym, ap, subst, ◌∙◌, inl, inr, ◌⊎◌}
use Rattle.std.proofs.lemmas.Bool.{cases_Bool, cases_lt}
use Rattle.std.proofs.lemmas.Bool.Decides.{nat_tests}
use Rattle.std.specs.Ordering.{is_lt}
use Rattle.std.specs.FinMap as map
use Rattle.std.specs.FinSet as set
use Rattle.tk_handle.specs.declared.dot.Dot.{Dot}
use Rattle.tk_handle.specs.Dot.{dot_cmp}
use mathlib.Core.Bool.{false≢true}
use Rattle.tk_dots.specs.Marks.{MarkedMap, marked, AreApart, Passes}
use Rattle.tk_dots.specs.Pages.{IsAbove, IsNext, IsLast}
use Rattle.tk_dots.specs.Runs.{DotSet, dot_of, IsNextIn, IsLastIn}
use Rattle.tk_dots.proofs.PlaceLaws.{dot_is}
use Rattle.tk_handle.proofs.TestLaws.{not_none as none_some}
use Rattle.tk_dots.proofs.MarkLaws.{at_page, at_run, page_is, value_on}

-- ---- walks

-- a dot that isn't below another isn't below one that is lower than that
below_both : (q a d : Dot) → is_lt (dot_cmp a d) ≡ true → is_lt (dot_cmp q d) ≡ false
    → is_lt (dot_cmp q a) ≡ false
below_both q a d h i = grind (arith, nat_tests)

-- a dot that isn't below a second, which isn't below a third, isn't below the third
above_both : (q a d : Dot) → is_lt (dot_cmp a d) ≡ false → is_lt (dot_cmp q a) ≡ false
    → is_lt (dot_cmp q d) ≡ false
above_both q a d h i = grind (arith, nat_tests)

module _ {X : Type 0} (m : MarkedMap X) (s : DotSet) (F : MarkedMap X) (is : marked m s ≡ F)
    (apart : AreApart m s) where
  -- a dot that is not free is in a run, or on a page
  known_at : (q : Dot) → IsSome (map.get F q) → (set.contains s q ≡ true) ⊎ IsSome (map.get m q)
  known_at q h = elim (cases_Bool (set.contains s q)) [
    | inl on ↦ inl on
    | inr off ↦ inr (subst IsSome (at_page m s F is q off) h)
  ]

  -- a dot that is on no page and in no run is free
  free_at : (q : Dot) → set.contains s q ≡ false → map.get m q ≡ None → map.get F q ≡ None
  free_at q off none = at_page m s F is q off ∙ none

  -- the next dot in the runs, if no page has a lower one, is the next dot, with a mark
  near_mark : (after : Option Dot) (a : Dot) → IsNextIn s after (Some a)
      → ((q : Dot) → IsAbove after q → IsSome (map.get m q) → is_lt (dot_cmp q a) ≡ false)
      → IsNext F after (Some (a, None))
  near_mark after a next pages = record {
    held = at_run m s F is a next.0;
    above = next.1;
    least = λ q up some.
        elim (known_at q some) [ inl on ↦ next.2 q up on | inr here ↦ pages q up here ];
  }

  -- the next value on a page, if no run has a lower dot, is the next
  near_place : (after : Option Dot) (p : Dot × Option X) → IsNext m after (Some p)
      → ((q : Dot) → IsAbove after q → set.contains s q ≡ true → is_lt (dot_cmp q p.0) ≡ false)
      → IsNext F after (Some p)
  near_place after p next runs = record {
    held = page_is m s F is apart p.0 p.1 next.held;
    above = next.above;
    least = λ q up some.
        elim (known_at q some) [ inl on ↦ runs q up on | inr here ↦ next.least q up here ];
  }

  -- the next entry is the next mark of a run, if that is below the next on a page
  pub next_mark : (after : Option Dot) (a : Dot) (p : Dot × Option X) → IsNextIn s after (Some a)
      → IsNext m after (Some p) → is_lt (dot_cmp a p.0) ≡ true → IsNext F after (Some (a, None))
  next_mark after a p mark place lt =
      near_mark after a mark (λ q up some. below_both q a p.0 lt (place.least q up some))

  -- the next entry is the next on a page, if no mark of a run is below it
  pub next_place : (after mark : Option Dot) (p : Dot × Option X) → IsNextIn s after mark
      → IsNext m after (Some p) → ((a : Dot) → mark ≡ Some a → is_lt (dot_cmp a p.0) ≡ false)
      → IsNext F after (Some p)
  next_place after None p mark place ge =
      near_place after p place (λ q up on. absurd (false≢true (sym (mark q up) ∙ on)))
  next_place after (Some a) p mark place ge =
      near_place after p place (λ q up on. above_both q a p.0 (ge a refl) (mark.2 q up on))

  -- the next entry is the next mark of a run, if no page has a next
  pub next_mark_alone : (after : Option Dot) (a : Dot) → IsNextIn s after (Some a)
      → IsNext m after None → IsNext F after (Some (a, None))
  next_mark_alone after a mark place =
      near_mark after a mark (λ q up some. absurd (none_some (map.get m q) (place q up) some))

  -- there is no next entry if neither pages nor runs have one
  pub next_none : (after : Option Dot) → IsNextIn s after None → IsNext m after None
      → IsNext F after None
  next_none after mark place q up = free_at q (mark q up) (place q up)

  -- a walk that passes over runs finds the next entry on a page
  pub passes_is : (after : Option Dot) (r : Option (Dot × Option X)) → IsNext m after r
      → Passes F after r
  passes_is after None next =
      λ q x up h. none_some (map.get m q) (next q up) (ap is_some (value_on m s F is q x h))
  passes_is after (Some p) next = (
    page_is m s F is apart p.0 p.1 next.held,
    next.above,
    λ q x up h. next.least q up (ap is_some (value_on m s F is q x h)),
  )

  -- the last serial of a region is the later of those on pages and in runs
  pub last_is : (r a b n : ℕ) → IsLast m r a → IsLastIn s r b → n ≡ max a b → IsLast F r n
  last_is r a b n page run e = record {
    there = λ some. at_last some (cases_lt a b);
    greatest = λ q region some. elim (known_at q some) [
      | inl on ↦ (let le : q.serial ≤ b = run.greatest q.serial
          (subst (λ (x : Dot). set.contains s x ≡ true) (dot_is q (dot_of r q.serial) region refl)
          on) in omega (arith, le, e))
      | inr here ↦ (let le : q.serial ≤ a = page.greatest q region here in omega (arith, le, e))
    ];
  }
    where
      at_last : 0 < n → (a < b) ⊎ (b ≤ a) → IsSome (map.get F (dot_of r n))
      at_last some (inl lt) =
          let same : b ≡ n = omega (arith, lt, e) in
          ap is_some
          (at_run m s F is (dot_of r n)
          (subst (λ (k : ℕ). set.contains s (dot_of r k) ≡ true) same
          (run.there (omega (arith, same, some)))))
      at_last some (inr ge) =
          let same : a ≡ n = omega (arith, ge, e) in
          by_value (map.get m (dot_of r n)) refl
          (subst (λ (k : ℕ). IsSome (map.get m (dot_of r k))) same
          (page.there (omega (arith, same, some))))
        where
          by_value : (o : Option (Option X)) → map.get m (dot_of r n) ≡ o → IsSome o
              → IsSome (map.get F (dot_of r n))
          by_value None here h = absurd (false≢true h)
          by_value (Some x) here h = ap is_some (page_is m s F is apart (dot_of r n) x here)

-- what is passed on is what was found
pub passes_copied : {X : Type 0} (F : MarkedMap X) (after : Option Dot) (d : Dot) (x o : Option X)
    → o ≡ x → Passes F after (Some (d, x)) → Passes F after (Some (d, o))
passes_copied F after d x o e h = (h.0 ∙ ap (λ y. Some y) (sym e), h.1, h.2)

-- the next entry has an equal value
pub next_copied : {X : Type 0} (F : MarkedMap X) (after : Option Dot) (d : Dot) (x o : Option X)
    → o ≡ x → IsNext F after (Some (d, x)) → IsNext F after (Some (d, o))
next_copied F after d x o e h =
    record { held = h.held ∙ ap (λ y. Some y) (sym e); above = h.above; least = h.least }
