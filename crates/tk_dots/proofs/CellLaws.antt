-- A write at one place of one page is a write at one dot. Key results:
--   seen_put, seen_same, seen_taken        the map after the write
--   paged_new, paged_over, paged_less ..   the number of values after the write
use Rattle.std.proofs.Common.{◌≡◌, ℕ, ◌+◌, ◌%◌, ◌-◌, ◌≤◌, ◌==◌, ◌&&◌, Bool}
use Rattle.std.proofs.Common.{true, false, cond, Option, Some, None, is_some}
use Rattle.std.proofs.Common.{option_map, refl, sym, ap, ◌∙◌, inl, inr, arith}
use Rattle.std.proofs.Common.{eqb-true as nat_same}
use Rattle.std.proofs.lemmas.Bool.{cases_Bool, cond-true, cond-false, cases_lt, and_parts}
use Rattle.std.proofs.lemmas.Bool.{false_from_ne_true, and_from as and_true}
use Rattle.std.proofs.lemmas.Bool.Decides.{nat_tests}
use Rattle.std.specs.Ordering.{eq_by_cmp}
use Rattle.std.specs.FinMap as map
use Rattle.tk_handle.specs.declared.dot.Dot.{Dot}
use Rattle.tk_handle.specs.Dot.{dot_cmp, dot_cmp_total, dot_cmp-IsAntisymmetric}
use mathlib.Core.Bool.{false≢true}
use Rattle.tk_dots.specs.Pages.{span, page_of, Pages, cell, cell_at, seen, IsPages}
use Rattle.tk_dots.specs.Pages.{IsPaged}
use Rattle.tk_dots.proofs.PlaceLaws.{tied_same, same_place, get_seen}
use Rattle.tk_handle.proofs.TestLaws.{tied}

-- equal numbers are equal by the test
pub nat_is : (a b : ℕ) → a ≡ b → (a == b) ≡ true
nat_is a b h = grind (arith, nat_tests)

-- two dots are equal exactly if their pages and their places on the pages are
same_test : (q d : Dot)
    → (eq_by_cmp dot_cmp (page_of q) (page_of d) && ((q.serial % span) == (d.serial % span)))
    ≡ eq_by_cmp dot_cmp q d
same_test q d = elim (cases_Bool (eq_by_cmp dot_cmp q d)) [
  | inl same ↦
      and_true _ _ (tied_same (page_of q) (page_of d) (ap page_of (tied q d same)))
      (nat_is (q.serial % span) (d.serial % span)
      (ap (λ (x : Dot). x.serial % span) (tied q d same)))
      ∙ sym same
  | inr apart ↦
      false_from_ne_true _ (λ h.
      let parts : (eq_by_cmp dot_cmp (page_of q) (page_of d) ≡ true)
      × (((q.serial % span) == (d.serial % span)) ≡ true) = and_parts _ _ h in
      false≢true
      (sym apart ∙ tied_same q d
      (same_place q d (tied (page_of q) (page_of d) parts.0)
      (nat_same (q.serial % span) (d.serial % span) parts.1))))
      ∙ sym apart
]

module _ {X : Type 0} where
  -- a value set where one is, and nowhere else, replaces what is there
  set_here : (o : Option X) (x : X) → cond (is_some o) (Some x) None ≡ option_map (λ _. x) o
  set_here None x = refl
  set_here (Some y) x = refl

  module _ (P N : Pages X) (d : Dot) (F : map.FinMap dot_cmp X) (is : seen P.entries ≡ F) (k0 : Dot)
      (i : ℕ) (page : k0 ≡ page_of d) (place : i ≡ d.serial % span) where
    -- o is written at the place of the dot
    abbrev Written : Option X → Type 0
    Written o =
        (k : Dot) (j : ℕ) → cell N k j ≡ cond (eq_by_cmp dot_cmp k k0 && (j == i)) o (cell P k j)

    -- a write at one place of one page is one at the dot of that place
    written_at : (o : Option X) → Written o → (q : Dot)
        → cell_at N q ≡ cond (eq_by_cmp dot_cmp q d) o (cell_at P q)
    written_at o h q =
        h (page_of q) (q.serial % span)
        ∙ ap (λ (k : Dot).
        cond (eq_by_cmp dot_cmp (page_of q) k && ((q.serial % span) == i)) o (cell_at P q)) page
        ∙ ap (λ (n : ℕ).
        cond (eq_by_cmp dot_cmp (page_of q) (page_of d) && ((q.serial % span) == n)) o
        (cell_at P q)) place
        ∙ ap (λ (b : Bool). cond b o (cell_at P q)) (same_test q d)

    -- the value at the place of a dot is that of the map
    at_seen : (q : Dot) → cell_at P q ≡ map.get F q
    at_seen q = sym (get_seen P q) ∙ ap (λ (m : map.FinMap dot_cmp X). map.get m q) is

    -- the cell at a dot's place is the map's value there
    pub get_here : cell P k0 i ≡ map.get F d
    get_here =
        ap (λ (k : Dot). cell P k i) page ∙ ap (λ (n : ℕ). cell P (page_of d) n) place ∙ at_seen d

    -- after the write the map has the new value at that dot, and the old ones at the others
    get_written : (o : Option X) → Written o → (q : Dot)
        → map.get (seen N.entries) q ≡ cond (eq_by_cmp dot_cmp q d) o (map.get F q)
    get_written o h q =
        get_seen N q ∙ written_at o h q ∙ ap (cond (eq_by_cmp dot_cmp q d) o) (at_seen q)

    -- a value that was written is in the map
    pub seen_put : (x : X) → Written (Some x) → seen N.entries ≡ map.insert F d x
    seen_put x h = map.same_map dot_cmp_total dot_cmp-IsAntisymmetric _ _
        (λ q. get_written (Some x) h q ∙ sym (map.get-insert dot_cmp_total F d x q))

    -- a cell that was emptied is out of the map
    pub seen_taken : Written None → seen N.entries ≡ map.remove F d
    seen_taken h = map.same_map dot_cmp_total dot_cmp-IsAntisymmetric _ _
        (λ q. get_written None h q ∙ sym (map.get-remove dot_cmp_total F d q))

    -- cells that are as before are the map as before
    pub seen_same : ((k : Dot) (j : ℕ) → cell N k j ≡ cell P k j) → seen N.entries ≡ F
    seen_same h = map.same_map dot_cmp_total dot_cmp-IsAntisymmetric _ _
        (λ q. get_seen N q ∙ h (page_of q) (q.serial % span) ∙ at_seen q)

    -- the map after a value was set where one was
    pub get_set : (x : X) → Written (cond (is_some (cell P k0 i)) (Some x) None)
        → (q : Dot) → map.get (seen N.entries) q
        ≡ cond (eq_by_cmp dot_cmp q d) (option_map (λ _. x) (map.get F q)) (map.get F q)
    get_set x h q = get_written _ h q ∙ elim (cases_Bool (eq_by_cmp dot_cmp q d)) [
      | inl same ↦
          cond-true _ _ _ same ∙ set_here (cell P k0 i) x
          ∙ ap (option_map (λ _. x)) (get_here ∙ ap (map.get F) (sym (tied q d same)))
          ∙ sym (cond-true _ _ _ same)
      | inr apart ↦ cond-false _ _ _ apart ∙ sym (cond-false _ _ _ apart)
    ]

    -- ---- the number of values

    module _ (len : ℕ) (counted : len ≡ map.len (seen P.entries)) where
      -- the count is the number of values in the map
      counted_here : len ≡ map.len F
      counted_here = counted ∙ ap map.len is

      -- a value is at the place exactly if the map has one at the dot
      held : (b : Bool) → is_some (cell P k0 i) ≡ b → is_some (map.get F d) ≡ b
      held b e = ap is_some (sym get_here) ∙ e

      -- a map with a value has a length above 0
      pub some_counted : is_some (cell P k0 i) ≡ true → 1 ≤ len
      some_counted h = elim (cases_lt 0 (map.len F)) [
        | inl some ↦ omega (arith, some, counted_here)
        | inr none ↦ absurd
            (false≢true
            (sym (ap is_some
            (ap (λ (m : map.FinMap dot_cmp X). map.get m d) (map.empty_of_len F (omega arith))
            ∙ map.get-empty dot_cmp d))
            ∙ held true h))
      ]

      module _ (pages : IsPages N) where
        -- pages with one more value have one more
        pub paged_new : (x : X) → Written (Some x) → is_some (cell P k0 i) ≡ false
            → IsPaged N (len + 1)
        paged_new x h none = record {
          pages = pages;
          counted = ap (λ (n : ℕ). n + 1) counted_here
              ∙ sym (ap map.len (seen_put x h) ∙ map.len-insert dot_cmp_total F d x
              ∙ cond-false _ _ _ (held false none));
        }

        -- pages in which a value took the place of another have as many
        pub paged_over : (x : X) → Written (Some x) → is_some (cell P k0 i) ≡ true → IsPaged N len
        paged_over x h some = record {
          pages = pages;
          counted = counted_here
              ∙ sym (ap map.len (seen_put x h) ∙ map.len-insert dot_cmp_total F d x
              ∙ cond-true _ _ _ (held true some));
        }

        -- pages without a value that was there have one less
        pub paged_less : Written None → is_some (cell P k0 i) ≡ true → IsPaged N (len - 1)
        paged_less h some = record {
          pages = pages;
          counted = ap (λ (n : ℕ). n - 1) counted_here
              ∙ sym (ap map.len (seen_taken h) ∙ map.len-remove dot_cmp_total F d
              ∙ cond-true _ _ _ (held true some));
        }

        -- pages without a value that wasn't there have as many
        pub paged_none : Written None → is_some (cell P k0 i) ≡ false → IsPaged N len
        paged_none h none = record {
          pages = pages;
          counted = counted_here
              ∙ sym (ap map.len (seen_taken h) ∙ map.len-remove dot_cmp_total F d
              ∙ cond-false _ _ _ (held false none));
        }

        -- pages with the same cells have as many values
        pub paged_same : ((k : Dot) (j : ℕ) → cell N k j ≡ cell P k j) → IsPaged N len
        paged_same h =
            record { pages = pages; counted = counted_here ∙ sym (ap map.len (seen_same h)) }

        -- pages in which a value was set where one was have as many
        pub paged_set : (x : X) → Written (cond (is_some (cell P k0 i)) (Some x) None)
            → IsPaged N len
        paged_set x h = elim (cases_Bool (is_some (cell P k0 i))) [
          | inl some ↦ paged_over x
              (λ k j. h k j
              ∙ ap (λ (o : Option X). cond (eq_by_cmp dot_cmp k k0 && (j == i)) o (cell P k j))
              (cond-true _ _ _ some)) some
          | inr none ↦ paged_none
              (λ k j. h k j
              ∙ ap (λ (o : Option X). cond (eq_by_cmp dot_cmp k k0 && (j == i)) o (cell P k j))
              (cond-false _ _ _ none)) none
        ]
