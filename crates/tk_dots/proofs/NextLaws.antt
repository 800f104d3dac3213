-- The least dot above another, and the last of a region, are found on pages. Key results:
--   on_page                    the least dot above a dot is found on a page
--   next_here, next_or_none    the least dot above is on the dot's page, or on a later one
--   first_or_none              the least dot of all is the first of the first page
--   last_is, last_none         the greatest serial of a region
--   range_excluded, range_all  the first entry of a range has the first value
use Rattle.std.proofs.Common.{◌≡◌, ℕ, ◌+◌, ◌*◌, ◌/◌, ◌%◌, ◌-◌, ◌<◌, ◌≤◌, true, false, length}
use Rattle.std.proofs.Common.{List, ◌∷◌, slice_get, IfSome, Option, Some, None, IsSome, is_some}
use Rattle.std.proofs.Common.{refl, sym, ap, subst, ◌∙◌, inl, inr, ◌⊎◌, arith, get_or}
use Rattle.std.proofs.lemmas.List.{get_or_past}
use Rattle.std.proofs.lemmas.Bool.{cases_lt}
use Rattle.std.proofs.lemmas.Bool.Decides.{nat_tests}
use Rattle.std.specs.Ordering.{is_lt}
use Rattle.std.specs.declared.ops.Bound.{Bound}
use Rattle.std.specs.declared.ops.Bound.TheVariants.{Excluded, Unbounded}
use Rattle.std.specs.BTreeMap.Range.{IsLeBy, IsRangeOf, IsEntryInRange}
use Rattle.std.specs.BTreeMap.{get}
use Rattle.std.specs.FinMap as map
use Rattle.tk_handle.specs.declared.dot.Dot.{Dot}
use Rattle.tk_handle.specs.Dot.{dot_cmp}
use Rattle.tk_handle.specs.Ranges.{max_serial}
use mathlib.Core.Bool.{false≢true}
use Rattle.tk_dots.specs.Pages.{span, page_of, dot_in, Slots, Pages, slot_in, cell, cell_at, seen}
use Rattle.tk_dots.specs.Pages.{FirstFrom, FirstIn, FirstOn, IsPage, IsPages, IsAbove, IsLeastAbove}
use Rattle.tk_dots.specs.Pages.{IsNext, IsLast, FirstOfPages}
use Rattle.tk_dots.proofs.PlaceLaws.{dot_is, get_seen}
use Rattle.tk_handle.proofs.TestLaws.{less as is_less, not_none as none_some}
use Rattle.std.proofs.lemmas.Option.{same_Some as some_same}
use Rattle.tk_dots.proofs.OrderLaws.{Before, before, is_before, not_before, not_lt, rises}
use Rattle.tk_dots.proofs.OrderLaws.{le_not_lt, page_in, place_in}

module _ {X : Type 0} where
  -- a place with a value is on a page
  paged : (o : Option (Slots X)) (i : ℕ) → IsSome (slot_in o i)
      → (v : Slots X) × (o ≡ Some v) × (i < length v.items)
  paged None i h = absurd (false≢true h)
  paged (Some v) i h = (
    v,
    refl,
    elim (cases_lt i (length v.items)) [
      | inl lt ↦ lt
      | inr ge ↦ absurd (none_some (get_or v.items i None) (get_or_past v.items i None ge) h)
    ],
  )

  module _ (m : Pages X) (F : map.FinMap dot_cmp X) (is : seen m.entries ≡ F)
      (pages : IsPages m) where
    -- the value at a dot is that of its cell
    at : (q : Dot) → map.get F q ≡ cell_at m q
    at q = ap (λ (x : map.FinMap dot_cmp X). map.get x q) (sym is) ∙ get_seen m q

    -- the value at a dot that is made of a page and a place is that of the cell there
    in_page : (k : Dot) (i : ℕ) → 0 < k.serial → i < span → map.get F (dot_in k i) ≡ cell m k i
    in_page k i some below =
        at (dot_in k i)
        ∙ ap (λ (x : Dot). cell m x ((dot_in k i).serial % span)) (page_in k i some below)
        ∙ ap (λ (j : ℕ). cell m k j) (place_in k i below)

    -- a dot with a value has a page
    pub held_on : (q : Dot) → IsSome (map.get F q)
        → (v : Slots X) × (get dot_cmp m (page_of q) ≡ Some v) × (q.serial % span < length v.items)
    held_on q h = paged (get dot_cmp m (page_of q)) (q.serial % span) (subst IsSome (at q) h)

    -- a dot with a value has a page, by the test
    page_there : (q : Dot) → IsSome (map.get F q) → IsSome (get dot_cmp m (page_of q))
    page_there q h = ap is_some (held_on q h).1

    -- the least dot above a dot is the first of the page k, from a place on, if the other dots
    -- above are on later pages
    on_page : (after : Option Dot) (k : Dot) (from : ℕ) (p : Dot × X) → 0 < k.serial
        → ((i : ℕ) → from ≤ i → i < span → IsAbove after (dot_in k i))
        → ((q : Dot) → IsAbove after q → IsSome (map.get F q)
        → ((page_of q ≡ k) × (from ≤ q.serial % span)) ⊎ Before k (page_of q))
        → FirstOn m k from (Some p) → IsLeastAbove F after p.0 p.1
    on_page after k from p some up later first =
        let i : ℕ = first.0 in
        let there : (v : Slots X) × (get dot_cmp m k ≡ Some v) × (i < length v.items) =
        paged (get dot_cmp m k) i (ap is_some first.2.1) in
        let page : IsPage k there.0.items = pages k there.0 there.1 in
        let below : i < span = omega (arith, there.2, page.short) in
        subst (λ (d : Dot). IsLeastAbove F after d p.1) (sym first.1) (record {
          held = in_page k i some below ∙ first.2.1;
          above = up i first.2.0 below;
          least = λ q above held. not_before q (dot_in k i)
              (λ b. not_less q i below first.2.2 (later q above held) held b);
        })
      where
        not_less : (q : Dot) (i : ℕ) → i < span → ((j : ℕ) → from ≤ j → j < i → cell m k j ≡ None)
            → ((page_of q ≡ k) × (from ≤ q.serial % span)) ⊎ Before k (page_of q)
            → IsSome (map.get F q) → Before q (dot_in k i) → ⊥
        not_less q i below none (inl same) held b =
            let region : q.region ≡ k.region = ap (λ (y : Dot). y.region) same.0 in
            let number : q.serial / span + 1 ≡ k.serial = ap (λ (y : Dot). y.serial) same.0 in
            let lower : q.serial % span < i = elim b [
              | inl lt ↦ absurd (omega (arith, lt, region))
              | inr e ↦ omega (arith, e.1, number)
            ] in
            none_some (map.get F q)
            (at q ∙ ap (λ (y : Dot). cell m y (q.serial % span)) same.0
            ∙ none (q.serial % span) same.1 lower) held
        not_less q i below none (inr (inl lt)) held (inl lt') = absurd (omega (arith, lt, lt'))
        not_less q i below none (inr (inl lt)) held (inr e) = absurd (omega (arith, lt, e.0))
        not_less q i below none (inr (inr e)) held (inl lt') = absurd (omega (arith, lt', e.0))
        not_less q i below none (inr (inr e)) held (inr f) = absurd (omega (arith, e.1, f.1, below))

    -- the least dot above is on the page of the dot
    pub next_here : (d : Dot) (p : Dot × X) → FirstOn m (page_of d) (d.serial % span + 1) (Some p)
        → IsNext F (Some d) (Some p)
    next_here d p first = on_page (Some d) (page_of d) (d.serial % span + 1) p (omega arith)
        (λ i le below. is_before d (dot_in (page_of d) i) (inr (refl, omega (arith, le))))
        (λ q above held. rises d q above) first

    -- no dot above is on the page of the dot: the least is the first of the next page
    pub next_page : (d : Dot) (p : Dot × X)
        → FirstFrom (cell m (page_of d)) (d.serial % span + 1) None
        → FirstOfPages m (Some (page_of d)) (Some p) → IsNext F (Some d) (Some p)
    next_page d p none first = on_page (Some d) first.key 0 p first.some
        (λ i le below. above_page first.key i (before (page_of d) first.key first.above) first.some)
        (λ q above held. elim (rises d q above) [
          | inl same ↦ absurd
              (none_some (map.get F q)
              (at q ∙ ap (λ (y : Dot). cell m y (q.serial % span)) same.0
              ∙ none (q.serial % span) same.1) held)
          | inr later ↦ elim (not_lt (page_of q) first.key
              (first.least (page_of q) (is_before (page_of d) (page_of q) later)
              (page_there q held))) [
                | inl same ↦ inl (same, omega arith)
                | inr more ↦ inr more
              ]
        ]) first.first
      where
        above_page : (k : Dot) (i : ℕ) → Before (page_of d) k → 0 < k.serial
            → is_lt (dot_cmp d (dot_in k i)) ≡ true
        above_page k i (inl lt) some = is_before d (dot_in k i) (inl lt)
        above_page k i (inr e) some = is_before d (dot_in k i) (inr (e.0, omega (arith, e.1)))

    -- no dot above has a value if neither the rest of the page nor a later page has one
    pub next_none : (d : Dot) → FirstFrom (cell m (page_of d)) (d.serial % span + 1) None
        → FirstOfPages m (Some (page_of d)) None → IsNext F (Some d) None
    next_none d none no_page q above = elim (rises d q above) [
      | inl same ↦
          at q ∙ ap (λ (y : Dot). cell m y (q.serial % span)) same.0 ∙ none (q.serial % span) same.1
      | inr later ↦ at q
          ∙ ap (λ (o : Option (Slots X)). slot_in o (q.serial % span))
          (no_page (page_of q) (is_before (page_of d) (page_of q) later))
    ]

    -- the least dot of all
    pub first_page : (p : Dot × X) → FirstOfPages m None (Some p) → IsNext F None (Some p)
    first_page p first = on_page None first.key 0 p first.some (λ i le below. tt)
        (λ q above held.
        elim (not_lt (page_of q) first.key (first.least (page_of q) tt (page_there q held))) [
          | inl same ↦ inl (same, omega arith)
          | inr more ↦ inr more
        ]) first.first

    -- no dot has a value if no page has one
    pub first_none : FirstOfPages m None None → IsNext F None None
    first_none no_page q above =
        at q ∙ ap (λ (o : Option (Slots X)). slot_in o (q.serial % span)) (no_page (page_of q) tt)

    -- the least dot above, if the rest of the page has no value, is that of the later pages
    pub next_or_none : (d : Dot) (r : Option (Dot × X))
        → FirstFrom (cell m (page_of d)) (d.serial % span + 1) None
        → FirstOfPages m (Some (page_of d)) r → IsNext F (Some d) r
    next_or_none d None none first = next_none d none first
    next_or_none d (Some x) none first = next_page d x none first

    -- the least dot of all is that of the pages
    pub first_or_none : (r : Option (Dot × X)) → FirstOfPages m None r → IsNext F None r
    first_or_none None first = first_none first
    first_or_none (Some x) first = first_page x first

    -- each dot with a value has a serial in range
    pub dots_high : (q : Dot) → IsSome (map.get F q) → q.serial ≤ max_serial
    dots_high q h =
        let there : (v : Slots X) × (get dot_cmp m (page_of q) ≡ Some v)
        × (q.serial % span < length v.items) = held_on q h in
        let page : IsPage (page_of q) there.0.items = pages (page_of q) there.0 there.1 in
        omega (arith, there.2, page.high)

    -- ---- the greatest serial of a region

    module _ (r : ℕ) (first last : Dot) (lo : first ≡ record { region = r; serial = 1 })
        (hi : last ≡ record { region = r; serial = max_serial }) where
      -- a dot of the region is between the first and the last that the region can have
      in_region : (q : Dot) → q.region ≡ r → 0 < q.serial → q.serial ≤ max_serial
          → IsLeBy dot_cmp (record { region = r; serial = 1 }) q
          × IsLeBy dot_cmp q (record { region = r; serial = max_serial })
      in_region q here low high = (grind (arith, nat_tests), grind (arith, nat_tests))

      -- a dot between the first and the last of the region is of the region
      region_of : (e : Dot) → IsLeBy dot_cmp (record { region = r; serial = 1 }) e
          → IsLeBy dot_cmp e (record { region = r; serial = max_serial }) → e.region ≡ r
      region_of e low high = grind (arith, nat_tests)

      -- the page of a dot of the region that has a value is among the region's
      page_within : (q : Dot) → q.region ≡ r → IsSome (map.get F q)
          → IsLeBy dot_cmp first (page_of q) × IsLeBy dot_cmp (page_of q) last
      page_within q same h =
          let there : (v : Slots X) × (get dot_cmp m (page_of q) ≡ Some v)
          × (q.serial % span < length v.items) = held_on q h in
          let page : IsPage (page_of q) there.0.items = pages (page_of q) there.0 there.1 in
          let within : IsLeBy dot_cmp (record { region = r; serial = 1 }) (page_of q)
          × IsLeBy dot_cmp (page_of q) (record { region = r; serial = max_serial }) =
          in_region (page_of q) same (omega arith) (omega (arith, page.high, page.some)) in (
            subst (λ (x : Dot). IsLeBy dot_cmp x (page_of q)) (sym lo) within.0,
            subst (λ (x : Dot). IsLeBy dot_cmp (page_of q) x) (sym hi) within.1,
          )

      -- the last serial of a region is that of the last cell of its last page
      pub last_is : (k : Dot) (v : Slots X) → IsLeBy dot_cmp first k × IsLeBy dot_cmp k last
          → get dot_cmp m k ≡ Some v → 0 < k.serial
          → ((q : Dot) → IsLeBy dot_cmp first q × IsLeBy dot_cmp q last → IsSome (get dot_cmp m q)
          → is_lt (dot_cmp k q) ≡ false)
          → IsLast F r ((k.serial - 1) * span + (length v.items - 1))
      last_is k v within here some top =
          let page : IsPage k v.items = pages k v here in
          let region : k.region ≡ r = region_of k
          (subst (λ (x : Dot). IsLeBy dot_cmp x k) lo within.0)
          (subst (λ (x : Dot). IsLeBy dot_cmp k x) hi within.1) in
          let below : length v.items - 1 < span = omega (arith, page.short, page.some) in
          record {
            there = λ _. subst (λ (x : Dot). IsSome (map.get F x))
                (dot_is (dot_in k (length v.items - 1))
                (record { region = r; serial = (k.serial - 1) * span + (length v.items - 1) })
                region refl)
                (subst IsSome
                (sym (in_page k (length v.items - 1) some below
                ∙ ap (λ (o : Option (Slots X)). slot_in o (length v.items - 1)) here))
                (page.full page.some));
            greatest = λ q same held. at_most q same held
                (not_lt k (page_of q)
                (top (page_of q) (page_within q same held) (page_there q held)));
          }
        where
          at_most : (q : Dot) → q.region ≡ r → IsSome (map.get F q)
              → (k ≡ page_of q) ⊎ Before (page_of q) k
              → q.serial ≤ (k.serial - 1) * span + (length v.items - 1)
          at_most q same held (inl e) =
              let there : (w : Slots X) × (get dot_cmp m (page_of q) ≡ Some w)
              × (q.serial % span < length w.items) = held_on q held in
              let one : there.0 ≡ v =
              some_same there.0 v (sym there.1 ∙ ap (get dot_cmp m) (sym e) ∙ here) in
              let long : length there.0.items ≡ length v.items =
              ap (λ (w : Slots X). length w.items) one in
              let number : k.serial ≡ q.serial / span + 1 = ap (λ (x : Dot). x.serial) e in
              omega (arith, there.2, long, number)
          at_most q same held (inr (inl lt)) =
              let region : k.region ≡ r = region_of k
              (subst (λ (x : Dot). IsLeBy dot_cmp x k) lo within.0)
              (subst (λ (x : Dot). IsLeBy dot_cmp k x) hi within.1) in
              absurd (omega (arith, lt, same, region))
          at_most q same held (inr (inr e)) = omega (arith, e.1)

      -- a region without pages has no last serial
      pub last_none : ((q : Dot) → IsLeBy dot_cmp first q × IsLeBy dot_cmp q last
          → get dot_cmp m q ≡ None)
          → IsLast F r 0
      last_none none = record {
        there = λ some. absurd (omega (arith, some));
        greatest = λ q same held. absurd
            (none_some (get dot_cmp m (page_of q)) (none (page_of q) (page_within q same held))
            (page_there q held));
      }

  -- ---- the first page

  -- the first page above has a value, and its first is the least above
  pub page_first : (m : Pages X) → IsPages m → (after : Option Dot) (k : Dot) (v : Slots X)
      → get dot_cmp m k ≡ Some v → 0 < k.serial → IsAbove after k
      → ((q : Dot) → IsAbove after q → IsSome (get dot_cmp m q) → is_lt (dot_cmp q k) ≡ false)
      → (r : Option (Dot × X)) → FirstIn k v.items 0 r → FirstOfPages m after r
  page_first m pages after k v here some above least None none = absurd (no_none (pages k v here))
    where
      no_none : IsPage k v.items → ⊥
      no_none page = none_some (get_or v.items (length v.items - 1) None)
          (none (length v.items - 1) (omega arith)) (page.full page.some)
  page_first m pages after k v here some above least (Some p) first = record {
    key = k;
    some = some;
    above = above;
    least = least;
    first = (
      first.0,
      first.1,
      (
        first.2.0,
        ap (λ (o : Option (Slots X)). slot_in o first.0) here ∙ first.2.1,
        λ j le lt. ap (λ (o : Option (Slots X)). slot_in o j) here ∙ first.2.2 j le lt,
      ),
    );
  }

  -- the first entry of a range is one of the pages
  pub range_has : (m : Pages X) (lo hi : Bound Dot) (part rest : List (Dot × Slots X)) (k : Dot)
      (v : Slots X)
      → IsRangeOf dot_cmp lo hi m part → part ≡ (k, v) ∷ rest → get dot_cmp m k ≡ Some v
  range_has m lo hi part rest k v range steps =
      let there : IfSome (slice_get ((k, v) ∷ rest) 0) (IsEntryInRange dot_cmp lo hi m) =
      subst (λ (l : List (Dot × Slots X)). IfSome (slice_get l 0) (IsEntryInRange dot_cmp lo hi m))
      steps range.1 in
      there.1

  -- the first entry of a range above a page has the first value above that page
  pub range_excluded : (m : Pages X) → IsPages m → (a : Dot) (after : Option Dot) → after ≡ Some a
      → (part rest : List (Dot × Slots X)) (k : Dot) (v : Slots X)
      → IsRangeOf dot_cmp (Excluded a) Unbounded m part → part ≡ (k, v) ∷ rest → 0 < k.serial
      → (r : Option (Dot × X)) → FirstIn k v.items 0 r → FirstOfPages m after r
  range_excluded m pages a after is part rest k v range steps some r first =
      let there : IfSome (slice_get ((k, v) ∷ rest) 0)
      (IsEntryInRange dot_cmp (Excluded a) Unbounded m) =
      subst (λ (l : List (Dot × Slots X)).
      IfSome (slice_get l 0) (IsEntryInRange dot_cmp (Excluded a) Unbounded m)) steps range.1 in
      subst (λ (o : Option Dot). FirstOfPages m o r) (sym is)
      (page_first m pages (Some a) k v there.1 some (ap is_lt there.0.0)
      (λ q above held.
      le_not_lt k q
      (subst (λ (l : List (Dot × Slots X)). IfSome (slice_get l 0) (λ e. IsLeBy dot_cmp e.0 q))
      steps (range.2 q (is_less (dot_cmp a q) above, tt) held))) r first)

  -- the first entry of the range of all pages has the first value
  pub range_all : (m : Pages X) → IsPages m → (after : Option Dot) → after ≡ None
      → (part rest : List (Dot × Slots X)) (k : Dot) (v : Slots X)
      → IsRangeOf dot_cmp Unbounded Unbounded m part → part ≡ (k, v) ∷ rest → 0 < k.serial
      → (r : Option (Dot × X)) → FirstIn k v.items 0 r → FirstOfPages m after r
  range_all m pages after is part rest k v range steps some r first =
      let there : IfSome (slice_get ((k, v) ∷ rest) 0)
      (IsEntryInRange dot_cmp Unbounded Unbounded m) =
      subst (λ (l : List (Dot × Slots X)).
      IfSome (slice_get l 0) (IsEntryInRange dot_cmp Unbounded Unbounded m)) steps range.1 in
      subst (λ (o : Option Dot). FirstOfPages m o r) (sym is)
      (page_first m pages None k v there.1 some tt
      (λ q above held.
      le_not_lt k q
      (subst (λ (l : List (Dot × Slots X)). IfSome (slice_get l 0) (λ e. IsLeBy dot_cmp e.0 q))
      steps (range.2 q (tt, tt) held))) r first)
