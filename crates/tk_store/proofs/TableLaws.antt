-- A table is seen as its slots. Key results:
--   get_slots                     a look-up in the table is one in the slots
--   shown                         what a look-up returns
--   put_slots, put_home           a slot is put
--   taken_slots, taken_home       a slot is taken out
--   table_put, table_marked, table_skipped, table_taken   the table stays one
use Rattle.std.proofs.Common.{◌≡◌, ℕ, ◌+◌, ◌-◌, ◌<◌, Bool, true, false, cond, ◌&&◌, T, List}
use Rattle.std.proofs.Common.{[], ◌∷◌, map, Option, Some, None, IsSome, option_map, refl}
use Rattle.std.proofs.Common.{sym, ap, subst, ◌∙◌, inl, inr, arith}
use Rattle.std.proofs.lemmas.Bool.{false≢true, cases_Bool, cond-true, cond-false}
use Rattle.std.specs.Ordering.{eq_by_cmp, is_lt}
use Rattle.std.specs.FinMap as sets
use Rattle.std.specs.FinMap.{find}
use Rattle.std.specs.FinMap.Entries.{below_all}
use Rattle.tk_handle.specs.declared.dot.Dot.{Dot}
use Rattle.tk_handle.specs.Dot.{dot_cmp, dot_cmp_total, dot_cmp-IsAntisymmetric}
use Rattle.tk_dots.specs.Marks.{value_of, without_value}
use Rattle.tk_fact.specs.declared.body.Body.{Body}
use Rattle.tk_store.specs.declared.slot.SlotRef.{SlotRef}
use Rattle.tk_store.specs.declared.slot.SlotRef.TheVariants as ref
use Rattle.tk_store.specs.SlotShown.{shown_slot, HasDot, IsShown}
use Rattle.tk_store.specs.Slots.{Slot, Slots, Held, Skipped, held_slot, held_in, without_fact}
use Rattle.tk_store.specs.Table.{Boxed, KeptMap, Shows, slot_of, slots_of, AreHome, IsTable}
use Rattle.tk_handle.proofs.TestLaws.{tied}
use Rattle.tk_store.proofs.PutLaws.{len_new}
use Rattle.tk_store.proofs.SlotLaws.{get_held, held_put, held_skip, held_taken}
use Rattle.tk_store.proofs.SlotLaws.{held_none, remove_free, len_less}
use Rattle.std.proofs.lemmas.Option.{none-some as none_is_not_some, same_Some as some_injective}

-- ---- the slots of a table

-- an entry of a table as the slot that it is
abbrev said : Dot × Option Boxed → Dot × Slot
said e = (e.0, slot_of e.1)

-- a dot is below all entries of a table exactly if it is below their slots
below_said : (d : Dot) (es : List (Dot × (Option Boxed)))
    → below_all dot_cmp d (map said es) ≡ below_all dot_cmp d es
below_said d [] = refl
below_said d (e ∷ es) = ap (λ b. is_lt (dot_cmp d e.0) && b) (below_said d es)

-- the slots of a table's entries are sorted exactly if the entries are
sorted_said : (es : List (Dot × (Option Boxed)))
    → sets.is_sorted dot_cmp (map said es) ≡ sets.is_sorted dot_cmp es
sorted_said [] = refl
sorted_said (e ∷ es) = ap (λ b. b && sets.is_sorted dot_cmp (map said es)) (below_said e.0 es)
    ∙ ap (λ b. below_all dot_cmp e.0 es && b) (sorted_said es)

-- a search in the slots of a table's entries finds the slot of what is found in the entries
find_said : (q : Dot) (es : List (Dot × (Option Boxed)))
    → find dot_cmp q (map said es) ≡ option_map slot_of (find dot_cmp q es)
find_said q [] = refl
find_said q (e ∷ es) =
    elim (eq_by_cmp dot_cmp q e.0) as
    (λ t. cond t (Some (slot_of e.1)) (find dot_cmp q (map said es))
    ≡ option_map slot_of (cond t (Some e.1) (find dot_cmp q es))) [
      | true ↦ refl
      | false ↦ find_said q es
    ]

-- the slots of a table have its entries, each as a slot
entries_said : (m : KeptMap) → sets.entries (slots_of m) ≡ map said (sets.entries m)
entries_said m = sets.entries-from_sorted dot_cmp _
    (subst T (sym (sorted_said (sets.entries m))) (sets.entries_sorted m))

-- a slot is what the table has at its dot
pub get_slots : (m : KeptMap) (q : Dot)
    → sets.get (slots_of m) q ≡ option_map slot_of (sets.get m q)
get_slots m q = sets.get-entries (slots_of m) q ∙ ap (find dot_cmp q) (entries_said m)
    ∙ find_said q (sets.entries m) ∙ ap (option_map slot_of) (sym (sets.get-entries m q))

-- an empty table has no slots
pub slots_none : (m : KeptMap) → m ≡ sets.empty → slots_of m ≡ sets.empty
slots_none m none = sets.same_map dot_cmp_total dot_cmp-IsAntisymmetric _ _ (λ q.
    get_slots m q
    ∙ ap (option_map slot_of) (ap (λ (x : KeptMap). sets.get x q) none ∙ sets.get-empty dot_cmp q)
    ∙ sym (sets.get-empty dot_cmp q))

-- a value that is there once it is mapped was there
some_of : {A B : Type 0} (f : A → B) (o : Option A) → IsSome (option_map f o) → IsSome o
some_of f None h = h
some_of f (Some a) h = refl

-- what is mapped of some value is some value
pub of_some : {A B : Type 0} (f : A → B) (o : Option A) → IsSome o → IsSome (option_map f o)
of_some f None h = h
of_some f (Some a) h = refl

module _ (m : KeptMap) (F : Slots) (seen : slots_of m ≡ F) where
  -- the slot at a dot is what the table has there
  pub at : (q : Dot) → sets.get F q ≡ option_map slot_of (sets.get m q)
  at q = ap (λ (s : Slots). sets.get s q) (sym seen) ∙ get_slots m q

  -- the table has what is known
  pub held_there : (q : Dot) → IsSome (sets.get F q) → IsSome (sets.get m q)
  held_there q h = some_of _ (sets.get m q) (subst IsSome (at q) h)

  -- a free dot is free in the table
  pub free_there : (q : Dot) → sets.get F q ≡ None → sets.get m q ≡ None
  free_there q free = by_kept (sets.get m q) (sym (at q) ∙ free)
    where
      by_kept : (o : Option (Option Boxed)) → option_map slot_of o ≡ None → o ≡ None
      by_kept None h = refl
      by_kept (Some k) h = absurd (none_is_not_some (slot_of k) (sym h))

  -- what a look-up returns is the slot at the dot
  pub shown_kept : AreHome m → (d : Dot) (r : SlotRef) (k : Option Boxed) → sets.get m d ≡ Some k
      → Shows r k → (Some (slot_of k) ≡ Some (shown_slot r)) × HasDot d r
  shown_kept home d (ref.Held f) (Some b) here shows = (
    ap (λ (x : Dot × Body). Some (Held x.1))
        (sym shows),
    ap (λ (x : Dot × Body). x.0) shows
        ∙ home d b here,
  )
  shown_kept home d (ref.Held f) None here shows = absurd shows
  shown_kept home d ref.Skipped (Some b) here shows = absurd shows
  shown_kept home d ref.Skipped None here shows = (refl, tt)

  -- what the table shows at a dot is its slot
  pub shown : AreHome m → (d : Dot) (r : SlotRef) (k : Option Boxed) → sets.get m d ≡ Some k
      → Shows r k → IsShown d (Some r) (sets.get F d)
  shown home d r k here shows =
      (let s = shown_kept home d r k here shows in (at d ∙ ap (option_map slot_of) here ∙ s.0, s.1))

  -- the table shows nothing at a free dot
  pub shown_none : (d : Dot) → sets.get m d ≡ None → sets.get F d ≡ None
  shown_none d none = at d ∙ ap (option_map slot_of) none

  -- ---- putting and taking out

  module _ (n : KeptMap) (d : Dot) where
    -- the slots with one more that was put
    pub put_slots : (k : Option Boxed)
        → ((q : Dot) → sets.get n q ≡ cond (eq_by_cmp dot_cmp q d) (Some k) (sets.get m q))
        → slots_of n ≡ sets.insert F d (slot_of k)
    put_slots k is = sets.same_map dot_cmp_total dot_cmp-IsAntisymmetric _ _ (λ q.
        get_slots n q ∙ ap (option_map slot_of) (is q)
        ∙ mapped (eq_by_cmp dot_cmp q d) (Some k) (sets.get m q)
        ∙ ap (cond (eq_by_cmp dot_cmp q d) (Some (slot_of k))) (sym (at q))
        ∙ sym (sets.get-insert dot_cmp_total F d (slot_of k) q))
      where
        mapped : (t : Bool) (o p : Option (Option Boxed))
            → option_map slot_of (cond t o p) ≡ cond t (option_map slot_of o) (option_map slot_of p)
        mapped true o p = refl
        mapped false o p = refl

    -- each fact is at its own dot with one more that is
    pub put_home : (k : Option Boxed)
        → ((q : Dot) → sets.get n q ≡ cond (eq_by_cmp dot_cmp q d) (Some k) (sets.get m q))
        → ((b : Boxed) → k ≡ Some b → b.value.0 ≡ d) → AreHome m → AreHome n
    put_home k is here home q c h = elim (cases_Bool (eq_by_cmp dot_cmp q d)) [
      | inl same ↦
          let e : k ≡ Some c = some_injective k (Some c) (sym (is q ∙ cond-true _ _ _ same) ∙ h) in
          here c e ∙ sym (tied q d same)
      | inr apart ↦ home q c (sym (is q ∙ cond-false _ _ _ apart) ∙ h)
    ]

    -- the slots without one that was taken out
    pub taken_slots : n ≡ sets.remove m d → slots_of n ≡ sets.remove F d
    taken_slots is = sets.same_map dot_cmp_total dot_cmp-IsAntisymmetric _ _ (λ q.
        get_slots n q
        ∙ ap (option_map slot_of)
        (ap (λ (x : KeptMap). sets.get x q) is ∙ sets.get-remove dot_cmp_total m d q)
        ∙ mapped (eq_by_cmp dot_cmp q d) (sets.get m q)
        ∙ ap (cond (eq_by_cmp dot_cmp q d) None) (sym (at q))
        ∙ sym (sets.get-remove dot_cmp_total F d q))
      where
        mapped : (t : Bool) (p : Option (Option Boxed))
            → option_map slot_of (cond t None p) ≡ cond t None (option_map slot_of p)
        mapped true p = refl
        mapped false p = refl

    -- each fact is at its own dot without one of them
    pub taken_home : n ≡ sets.remove m d → AreHome m → AreHome n
    taken_home is home q c h = elim (cases_Bool (eq_by_cmp dot_cmp q d)) [
      | inl same ↦ absurd
          (none_is_not_some (Some c)
          (sym (ap (λ (x : KeptMap). sets.get x q) is ∙ sets.get-remove dot_cmp_total m d q
          ∙ cond-true _ _ _ same)
          ∙ h))
      | inr apart ↦ home q c
          (sym (ap (λ (x : KeptMap). sets.get x q) is ∙ sets.get-remove dot_cmp_total m d q
          ∙ cond-false _ _ _ apart)
          ∙ h)
    ]

-- ---- a table stays one

-- some value is a value
pub some_is : {A : Type 0} (o : Option A) → IsSome o → (a : A) × (o ≡ Some a)
some_is None h = absurd (false≢true h)
some_is (Some a) h = (a, refl)

-- a slot that holds a fact is known
pub held_known : (o : Option Slot) → IsSome (held_slot o) → IsSome o
held_known None h = h
held_known (Some s) h = refl

-- what a table has after an insert
pub inserted : (m n : KeptMap) (d : Dot) (k : Option Boxed) → n ≡ sets.insert m d k → (q : Dot)
    → sets.get n q ≡ cond (eq_by_cmp dot_cmp q d) (Some k) (sets.get m q)
inserted m n d k is q =
    ap (λ (x : KeptMap). sets.get x q) is ∙ sets.get-insert dot_cmp_total m d k q

-- an empty table is a table of no facts
pub table_none : (m : KeptMap) → m ≡ sets.empty → IsTable m 0
table_none m none = record {
  home = λ d b h. absurd
      (none_is_not_some (Some b)
      (sym (ap (λ (x : KeptMap). sets.get x d) none ∙ sets.get-empty dot_cmp d) ∙ h));
  counted = sym (ap (λ (s : Slots). sets.len (held_in s)) (slots_none m none)
      ∙ ap (λ (f : sets.FinMap dot_cmp Body). sets.len f) (held_none sets.empty refl)
      ∙ sets.len-empty dot_cmp Body);
}

module _ (m : KeptMap) (held : ℕ) (table : IsTable m held) (F : Slots) (seen : slots_of m ≡ F) where
  -- the table's count is the number of facts held by the slots
  count : held ≡ sets.len (held_in F)
  count = table.counted ∙ ap (λ (s : Slots). sets.len (held_in s)) seen

  module _ (n : KeptMap) (d : Dot) where
    -- a table with one more fact counts it
    pub table_put : (b : Boxed) → sets.get F d ≡ None → n ≡ sets.insert m d (Some b) → b.value.0 ≡ d
        → IsTable n (held + 1)
    table_put b free is home = record {
      home = put_home m F seen n d (Some b) (inserted m n d (Some b) is)
          (λ c e. ap (λ (k : Option Boxed). dot_of k d) (sym e) ∙ home) table.home;
      counted = ap (λ (k : ℕ). k + 1) count
          ∙ sym (ap (λ (s : Slots). sets.len (held_in s))
          (put_slots m F seen n d (Some b) (inserted m n d (Some b) is))
          ∙ ap (λ (f : sets.FinMap dot_cmp Body). sets.len f) (held_put F d b.value.1)
          ∙ len_new (held_in F) d b.value.1 (get_held F d ∙ ap held_slot free));
    }
      where
        dot_of : (Option Boxed) → Dot → Dot
        dot_of (Some c) e = c.value.0
        dot_of None e = e

    -- a table with one more mark counts as many facts
    pub table_marked : sets.get F d ≡ None → n ≡ sets.insert m d None → IsTable n held
    table_marked free is = record {
      home = put_home m F seen n d None (inserted m n d None is) (λ c e. absurd (no_fact c e))
          table.home;
      counted = count
          ∙ sym (ap (λ (s : Slots). sets.len (held_in s))
          (put_slots m F seen n d None (inserted m n d None is))
          ∙ ap (λ (f : sets.FinMap dot_cmp Body). sets.len f)
          (held_skip F d ∙ remove_free (held_in F) d (get_held F d ∙ ap held_slot free)));
    }
      where
        no_fact : (c : Boxed) → None ≡ Some c → ⊥
        no_fact c e = cc

    -- a table in which a fact became a mark counts one less
    pub table_skipped : (x : Body) → held_slot (sets.get F d) ≡ Some x
        → ((q : Dot) → sets.get n q ≡ cond (eq_by_cmp dot_cmp q d) (Some None) (sets.get m q))
        → IsTable n (held - 1)
    table_skipped x there is = record {
      home = put_home m F seen n d None is (λ c e. absurd (no_fact c e)) table.home;
      counted =
          let len : sets.len (sets.remove (held_in F) d) + 1 ≡ sets.len (held_in F) =
          len_less (held_in F) d x (get_held F d ∙ there) in
          let now : sets.len (held_in (slots_of n)) ≡ sets.len (sets.remove (held_in F) d) =
          ap (λ (s : Slots). sets.len (held_in s)) (put_slots m F seen n d None is)
          ∙ ap (λ (f : sets.FinMap dot_cmp Body). sets.len f) (held_skip F d) in
          omega (arith, len, now, count);
    }
      where
        no_fact : (c : Boxed) → None ≡ Some c → ⊥
        no_fact c e = cc

    -- a table without a fact counts one less
    pub table_taken : (x : Body) → held_slot (sets.get F d) ≡ Some x → n ≡ sets.remove m d
        → IsTable n (held - 1)
    table_taken x there is = record {
      home = taken_home m F seen n d is table.home;
      counted =
          let len : sets.len (sets.remove (held_in F) d) + 1 ≡ sets.len (held_in F) =
          len_less (held_in F) d x (get_held F d ∙ there) in
          let now : sets.len (held_in (slots_of n)) ≡ sets.len (sets.remove (held_in F) d) =
          ap (λ (s : Slots). sets.len (held_in s)) (taken_slots m F seen n d is)
          ∙ ap (λ (f : sets.FinMap dot_cmp Body). sets.len f) (held_taken F d) in
          omega (arith, len, now, count);
    }

    -- a fact that is held is counted
    pub some_held : (x : Body) → held_slot (sets.get F d) ≡ Some x → 0 < held
    some_held x there = let len = len_less (held_in F) d x (get_held F d ∙ there) in
        omega (arith, len, count)

-- ---- taking out

-- a value that is there is in its place
pub value_some : {A : Type 0} (o : Option (Option A)) (x : A) → value_of o ≡ Some x
    → o ≡ Some (Some x)
value_some None x h = absurd (none_is_not_some x h)
value_some (Some None) x h = absurd (none_is_not_some x h)
value_some (Some (Some y)) x h = ap (λ o. Some o) h

-- a table without a value is one without its place
pub taken_value : (m n : KeptMap) (d : Dot) (b : Boxed) → sets.get m d ≡ Some (Some b)
    → n ≡ without_value m d (sets.get m d) → n ≡ sets.remove m d
taken_value m n d b kept rest = rest ∙ ap (without_value m d) kept

-- a table in which there was no value is as before
pub no_value_left : (m n : KeptMap) (d : Dot) (o : Option (Option Boxed)) → value_of o ≡ None
    → n ≡ without_value m d o → n ≡ m
no_value_left m n d None h rest = rest
no_value_left m n d (Some None) h rest = rest
no_value_left m n d (Some (Some b)) h rest = absurd (none_is_not_some b (sym h))

-- slots without a dot are the slots with that dot removed
removed_none : (F : Slots) (d : Dot) → sets.get F d ≡ None → F ≡ sets.remove F d
removed_none F d none = sets.same_map dot_cmp_total dot_cmp-IsAntisymmetric _ _
    (λ q. at_removed q ∙ sym (sets.get-remove dot_cmp_total F d q))
  where
    at_removed : (q : Dot) → sets.get F q ≡ cond (eq_by_cmp dot_cmp q d) None (sets.get F q)
    at_removed q = elim (cases_Bool (eq_by_cmp dot_cmp q d)) [
      | inl same ↦ ap (sets.get F) (tied q d same) ∙ none ∙ sym (cond-true _ _ _ same)
      | inr apart ↦ sym (cond-false _ _ _ apart)
    ]

-- where there was no fact, none is taken and the slots are as before
pub no_fact_left : (m : KeptMap) (F : Slots) → slots_of m ≡ F
    → (d : Dot) (o : Option (Option Boxed)) → sets.get m d ≡ o → value_of o ≡ None
    → (◌≡◌ {A = Option (Dot × Body)} None
    (option_map (λ (b : Body). (d, b)) (held_slot (sets.get F d))))
    × (F ≡ without_fact F d (sets.get F d))
no_fact_left m F seen d None here h =
    let free : sets.get F d ≡ None = at m F seen d ∙ ap (option_map slot_of) here in (
      ap (λ (o : Option Slot). option_map (λ (b : Body). (d, b)) (held_slot o)) (sym free),
      removed_none F d free ∙ ap (without_fact F d) (sym free),
    )
no_fact_left m F seen d (Some None) here h =
    let mark : sets.get F d ≡ Some Skipped = at m F seen d ∙ ap (option_map slot_of) here in (
      ap (λ (o : Option Slot). option_map (λ (b : Body). (d, b)) (held_slot o)) (sym mark),
      ap (without_fact F d) (sym mark),
    )
no_fact_left m F seen d (Some (Some b)) here h = absurd (none_is_not_some b (sym h))
