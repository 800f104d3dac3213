-- A map of values and marks is its pages and its runs. Key results:
--   get_marked, page_is, at_run, at_page   what is at a dot
--   put_marked, put_apart                  a value or a mark is put at a free dot
--   over_marked, shift_marked              a mark takes the place of what is at a dot
--   taken_marked, taken_apart              a value is taken out
use Rattle.std.proofs.Common.{◌≡◌, ◌||◌, Bool, true, false, cond, List, [], ◌∷◌, Option, Some, None}
use Rattle.std.proofs.Common.{IsSome, is_some, option_map, refl, sym, ap, subst, ◌∙◌, inl, inr}
use Rattle.std.proofs.lemmas.Bool.{cases_Bool, cond-true, cond-false, or_left}
use Rattle.std.specs.List.{list_any}
use Rattle.std.specs.Ordering.{eq_by_cmp}
use Rattle.std.specs.FinMap as map
use Rattle.std.specs.FinSet as set
use Rattle.tk_handle.specs.declared.dot.Dot.{Dot}
use Rattle.tk_handle.specs.Dot.{dot_cmp, dot_cmp_total, dot_cmp-IsAntisymmetric}
use mathlib.Core.Bool.{false≢true}
use Rattle.tk_dots.specs.Marks.{MarkedMap, with_marks, marked, AreApart, value_of}
use Rattle.tk_dots.specs.Runs.{DotSet}
use Rattle.tk_handle.proofs.TestLaws.{tied}
use Rattle.tk_handle.proofs.TestLaws.{some_none}
use Rattle.std.proofs.lemmas.Option.{none-some as none_is}

-- two tests in a row that choose the same value are one test, of either
cond_or : {A : Type 0} (a b : Bool) (x y : A) → cond a x (cond b x y) ≡ cond (a || b) x y
cond_or true b x y = refl
cond_or false b x y = refl

module _ {X : Type 0} where
  -- a mark
  abbrev pub no_value : Option X
  no_value = None

  -- a map with marks at dots has a mark at each of them, and its own values elsewhere
  get_marks : (m : MarkedMap X) (ds : List Dot) (q : Dot)
      → map.get (with_marks m ds) q
      ≡ cond (list_any (eq_by_cmp dot_cmp q) ds) (Some None) (map.get m q)
  get_marks m [] q = refl
  get_marks m (d ∷ ds) q =
      map.get-insert dot_cmp_total (with_marks m ds) d None q
      ∙ ap (cond (eq_by_cmp dot_cmp q d) (Some None)) (get_marks m ds q)
      ∙ cond_or (eq_by_cmp dot_cmp q d) (list_any (eq_by_cmp dot_cmp q) ds) (Some None)
      (map.get m q)

  -- what is at a dot: a mark of the runs, or what is on the pages
  pub get_marked : (m : MarkedMap X) (s : DotSet) (q : Dot)
      → map.get (marked m s) q ≡ cond (set.contains s q) (Some None) (map.get m q)
  get_marked m s q = get_marks m (set.items s) q
      ∙ ap (λ (t : Bool). cond t (Some None) (map.get m q)) (sym (set.contains-items s q))

  -- no values and no marks are the empty map
  pub marked_empty : (m : MarkedMap X) (s : DotSet) → m ≡ map.empty → s ≡ set.empty
      → marked m s ≡ map.empty
  marked_empty m s none nothing = map.same_map dot_cmp_total dot_cmp-IsAntisymmetric _ _ (λ q.
      get_marked m s q
      ∙ ap (λ (t : DotSet). cond (set.contains t q) (Some None) (map.get m q)) nothing
      ∙ ap (λ (t : Bool). cond t (Some None) (map.get m q)) (set.contains-empty dot_cmp q)
      ∙ ap (λ (x : MarkedMap X). map.get x q) none)

  -- without runs no dot is on a page and in a run
  pub apart_empty : (m : MarkedMap X) (s : DotSet) → s ≡ set.empty → AreApart m s
  apart_empty m s nothing d h = absurd
      (false≢true
      (sym (set.contains-empty dot_cmp d)
      ∙ (ap (λ (t : DotSet). set.contains t d) (sym nothing) ∙ h)))

  module _ (m : MarkedMap X) (s : DotSet) (F : MarkedMap X) (is : marked m s ≡ F) where
    -- what the map has at a dot: a mark in a run, or what is on the page
    pub at : (q : Dot) → map.get F q ≡ cond (set.contains s q) (Some None) (map.get m q)
    at q = ap (λ (x : MarkedMap X). map.get x q) (sym is) ∙ get_marked m s q

    -- a dot in no run
    pub at_page : (q : Dot) → set.contains s q ≡ false → map.get F q ≡ map.get m q
    at_page q h = at q ∙ cond-false _ _ _ h

    -- a dot in a run is a mark
    pub at_run : (q : Dot) → set.contains s q ≡ true → map.get F q ≡ Some None
    at_run q h = at q ∙ cond-true _ _ _ h

    -- a free dot is in no run, and on no page
    pub free_run : (q : Dot) → map.get F q ≡ None → set.contains s q ≡ false
    free_run q free = elim (cases_Bool (set.contains s q)) [
      | inl here ↦ absurd (some_none None (sym (at_run q here) ∙ free))
      | inr off ↦ off
    ]

    -- what is on a page is at the dot, since no run has it
    pub page_is : AreApart m s → (q : Dot) (o : Option X) → map.get m q ≡ Some o
        → map.get F q ≡ Some o
    page_is apart q o here = elim (cases_Bool (set.contains s q)) [
      | inl on ↦ absurd (none_is o (sym (apart q on) ∙ here))
      | inr off ↦ at_page q off ∙ here
    ]

    -- a value is on a page
    pub value_on : (q : Dot) (x : X) → map.get F q ≡ Some (Some x) → map.get m q ≡ Some (Some x)
    value_on q x h = elim (cases_Bool (set.contains s q)) [
      | inl on ↦ absurd (mark_not x (sym (at_run q on) ∙ h))
      | inr off ↦ sym (at_page q off) ∙ h
    ]
      where
        mark_not : (x : X) → Some None ≡ Some (Some x) → ⊥
        mark_not x e = cc

    -- the pages and the runs hold another map
    pub same_marked : (n : MarkedMap X) (t : DotSet) (G : MarkedMap X)
        → ((q : Dot) → cond (set.contains t q) (Some None) (map.get n q) ≡ map.get G q)
        → marked n t ≡ G
    same_marked n t G h =
        map.same_map dot_cmp_total dot_cmp-IsAntisymmetric _ _ (λ q. get_marked n t q ∙ h q)

    -- ---- a value is put

    module _ (n : MarkedMap X) (d : Dot) (x : Option X) (free : map.get F d ≡ None)
        (put : n ≡ map.insert m d x) where
      -- a value put at a dot is there, and the other dots are as before
      get_put : (q : Dot) → map.get n q ≡ cond (eq_by_cmp dot_cmp q d) (Some x) (map.get m q)
      get_put q = ap (λ (y : MarkedMap X). map.get y q) put ∙ map.get-insert dot_cmp_total m d x q

      -- the map with one more value on its page
      pub put_marked : marked n s ≡ map.insert F d x
      put_marked = same_marked n s (map.insert F d x)
          (λ q. at_put q ∙ sym (map.get-insert dot_cmp_total F d x q))
        where
          at_put : (q : Dot)
              → cond (set.contains s q) (Some None) (map.get n q)
              ≡ cond (eq_by_cmp dot_cmp q d) (Some x) (map.get F q)
          at_put q = elim (cases_Bool (eq_by_cmp dot_cmp q d)) [
            | inl same ↦
                cond-false _ _ _ (ap (set.contains s) (tied q d same) ∙ free_run d free) ∙ get_put q
                ∙ cond-true _ _ _ same ∙ sym (cond-true _ _ _ same)
            | inr apart ↦
                ap (cond (set.contains s q) (Some None)) (get_put q ∙ cond-false _ _ _ apart)
                ∙ sym (at q) ∙ sym (cond-false _ _ _ apart)
          ]

      -- pages and runs stay apart with one more value
      pub put_apart : AreApart m s → AreApart n s
      put_apart apart q on = elim (cases_Bool (eq_by_cmp dot_cmp q d)) [
        | inl same ↦ absurd
            (false≢true (sym (free_run d free) ∙ (ap (set.contains s) (sym (tied q d same)) ∙ on)))
        | inr other ↦ get_put q ∙ cond-false _ _ _ other ∙ apart q on
      ]

    -- ---- a mark is put

    module _ (t : DotSet) (d : Dot) (add : t ≡ set.insert s d) where
      -- what the runs have with one mark more
      has_added : (q : Dot) → set.contains t q ≡ (eq_by_cmp dot_cmp q d || set.contains s q)
      has_added q =
          ap (λ (y : DotSet). set.contains y q) add ∙ set.contains-insert dot_cmp_total s d q

    -- ---- a mark takes the place of what is at a dot

    module _ (n : MarkedMap X) (d : Dot)
        (set' : (q : Dot)
        → map.get n q
        ≡ cond (eq_by_cmp dot_cmp q d) (option_map (λ _. no_value) (map.get m q))
        (map.get m q)) where
      -- on the page alone
      pub over_marked : IsSome (map.get F d) → marked n s ≡ map.insert F d None
      over_marked there = same_marked n s (map.insert F d None)
          (λ q. at_over q ∙ sym (map.get-insert dot_cmp_total F d None q))
        where
          over : (o : Option (Option X)) → IsSome o → option_map (λ _. no_value) o ≡ Some no_value
          over None h = absurd (false≢true h)
          over (Some y) h = refl

          at_over : (q : Dot)
              → cond (set.contains s q) (Some None) (map.get n q)
              ≡ cond (eq_by_cmp dot_cmp q d) (Some None) (map.get F q)
          at_over q = elim (cases_Bool (eq_by_cmp dot_cmp q d)) [
            | inl same ↦ elim (cases_Bool (set.contains s q)) [
              | inl on ↦ cond-true _ _ _ on ∙ sym (cond-true _ _ _ same)
              | inr off ↦
                  let here : IsSome (map.get m q) =
                  subst IsSome (ap (map.get F) (sym (tied q d same)) ∙ at_page q off) there in
                  cond-false _ _ _ off ∙ set' q ∙ cond-true _ _ _ same ∙ over (map.get m q) here
                  ∙ sym (cond-true _ _ _ same)
            ]
            | inr apart ↦
                ap (cond (set.contains s q) (Some None)) (set' q ∙ cond-false _ _ _ apart)
                ∙ sym (at q) ∙ sym (cond-false _ _ _ apart)
          ]

      -- in the runs, and on no page
      module _ (k : MarkedMap X) (t : DotSet) (add : t ≡ set.insert s d)
          (gone : k ≡ map.remove n d) where
        -- what the pages have without the value
        get_gone : (q : Dot) → map.get k q ≡ cond (eq_by_cmp dot_cmp q d) None (map.get m q)
        get_gone q =
            ap (λ (y : MarkedMap X). map.get y q) gone ∙ map.get-remove dot_cmp_total n d q
            ∙ elim (cases_Bool (eq_by_cmp dot_cmp q d)) [
              | inl same ↦ cond-true _ _ _ same ∙ sym (cond-true _ _ _ same)
              | inr apart ↦ cond-false _ _ _ apart ∙ set' q ∙ cond-false _ _ _ apart
                  ∙ sym (cond-false _ _ _ apart)
            ]

        -- the map whose value became a mark in a run
        pub moved_marked : marked k t ≡ map.insert F d None
        moved_marked = same_marked k t (map.insert F d None)
            (λ q. at_moved q ∙ sym (map.get-insert dot_cmp_total F d None q))
          where
            at_moved : (q : Dot)
                → cond (set.contains t q) (Some None) (map.get k q)
                ≡ cond (eq_by_cmp dot_cmp q d) (Some None) (map.get F q)
            at_moved q = elim (cases_Bool (eq_by_cmp dot_cmp q d)) [
              | inl same ↦ cond-true _ _ _ (has_added t d add q ∙ or_left _ _ same)
                  ∙ sym (cond-true _ _ _ same)
              | inr apart ↦
                  ap (λ (b : Bool). cond b (Some None) (map.get k q))
                  (has_added t d add q ∙ ap (λ (b : Bool). b || set.contains s q) apart)
                  ∙ ap (cond (set.contains s q) (Some None)) (get_gone q ∙ cond-false _ _ _ apart)
                  ∙ sym (at q) ∙ sym (cond-false _ _ _ apart)
            ]

        -- pages and runs stay apart if a value becomes a mark in a run
        pub moved_apart : AreApart m s → AreApart k t
        moved_apart apart q on = elim (cases_Bool (eq_by_cmp dot_cmp q d)) [
          | inl same ↦ get_gone q ∙ cond-true _ _ _ same
          | inr other ↦ get_gone q ∙ cond-false _ _ _ other
              ∙ apart q
              (sym (has_added t d add q ∙ ap (λ (b : Bool). b || set.contains s q) other) ∙ on)
        ]

    -- a mark is moved from its page to the runs
    module _ (k : MarkedMap X) (t : DotSet) (d : Dot) (here : map.get m d ≡ Some no_value)
        (add : t ≡ set.insert s d) (gone : k ≡ map.remove m d) where
      -- a mark that is put once more at its dot changes nothing
      itself : (q : Dot)
          → map.get m q
          ≡ cond (eq_by_cmp dot_cmp q d) (option_map (λ _. no_value) (map.get m q)) (map.get m q)
      itself q = elim (cases_Bool (eq_by_cmp dot_cmp q d)) [
        | inl same ↦
            (ap (map.get m) (tied q d same) ∙ here)
            ∙ ap (option_map (λ _. no_value)) (sym (ap (map.get m) (tied q d same) ∙ here))
            ∙ sym (cond-true _ _ _ same)
        | inr apart ↦ sym (cond-false _ _ _ apart)
      ]

      -- the map is as before if a mark goes from its page to a run
      pub shift_marked : AreApart m s → marked k t ≡ F
      shift_marked apart =
          moved_marked m d itself k t add gone ∙ held_mark F d (page_is apart d no_value here)
        where
          held_mark : (G : MarkedMap X) (d : Dot) → map.get G d ≡ Some no_value
              → map.insert G d None ≡ G
          held_mark G d h = map.same_map dot_cmp_total dot_cmp-IsAntisymmetric _ _
              (λ q. map.get-insert dot_cmp_total G d None q
              ∙ elim (cases_Bool (eq_by_cmp dot_cmp q d)) [
                | inl same ↦ cond-true _ _ _ same ∙ sym (ap (map.get G) (tied q d same) ∙ h)
                | inr other ↦ cond-false _ _ _ other
              ])

      -- pages and runs stay apart if a mark goes from its page to a run
      pub shift_apart : AreApart m s → AreApart k t
      shift_apart apart = moved_apart m d itself k t add gone apart

    -- ---- a value is taken out

    -- where a value is
    pub value_there : (q : Dot) → is_some (value_of (map.get F q)) ≡ true
        → (x : X) × (map.get F q ≡ Some (Some x))
    value_there q h = by_slot (map.get F q) h
      where
        by_slot : (o : Option (Option X)) → is_some (value_of o) ≡ true
            → (x : X) × (o ≡ Some (Some x))
        by_slot None h = absurd (false≢true h)
        by_slot (Some None) h = absurd (false≢true h)
        by_slot (Some (Some x)) h = (x, refl)

    -- a dot with a value is in no run
    pub value_off : (q : Dot) (x : X) → map.get F q ≡ Some (Some x) → set.contains s q ≡ false
    value_off q x h = elim (cases_Bool (set.contains s q)) [
      | inl on ↦ absurd (mark_not x (sym (at_run q on) ∙ h))
      | inr off ↦ off
    ]
      where
        mark_not : (x : X) → Some None ≡ Some (Some x) → ⊥
        mark_not x e = cc

    module _ (k : MarkedMap X) (d : Dot) (gone : k ≡ map.remove m d) where
      -- the map without a value
      pub taken_marked : set.contains s d ≡ false → marked k s ≡ map.remove F d
      taken_marked off = same_marked k s (map.remove F d)
          (λ q. at_taken q ∙ sym (map.get-remove dot_cmp_total F d q))
        where
          at_taken : (q : Dot)
              → cond (set.contains s q) (Some None) (map.get k q)
              ≡ cond (eq_by_cmp dot_cmp q d) None (map.get F q)
          at_taken q = elim (cases_Bool (eq_by_cmp dot_cmp q d)) [
            | inl same ↦
                cond-false _ _ _ (ap (set.contains s) (tied q d same) ∙ off)
                ∙ ap (λ (y : MarkedMap X). map.get y q) gone ∙ map.get-remove dot_cmp_total m d q
                ∙ cond-true _ _ _ same ∙ sym (cond-true _ _ _ same)
            | inr apart ↦
                ap (cond (set.contains s q) (Some None))
                (ap (λ (y : MarkedMap X). map.get y q) gone ∙ map.get-remove dot_cmp_total m d q
                ∙ cond-false _ _ _ apart)
                ∙ sym (at q) ∙ sym (cond-false _ _ _ apart)
          ]

      -- pages and runs stay apart without a value
      pub taken_apart : AreApart m s → AreApart k s
      taken_apart apart q on =
          ap (λ (y : MarkedMap X). map.get y q) gone ∙ map.get-remove dot_cmp_total m d q
          ∙ none_taken (eq_by_cmp dot_cmp q d) (apart q on)
        where
          none_taken : (b : Bool) → map.get m q ≡ None → cond b None (map.get m q) ≡ None
          none_taken true none = refl
          none_taken false none = none
