-- Paging by cursor loses nothing. Key results:
--   complete   a receiver that takes in each page has all
use Rattle.std.proofs.Common.{◌≡◌, ℕ, zero, suc, ◌-◌, ◌<◌, ◌≤◌, Bool, true, false, cond, T, List}
use Rattle.std.proofs.Common.{[], ◌∷◌, map, filter, take, length, slice_get, Option, Some, None}
use Rattle.std.proofs.Common.{refl, sym, ap, subst, ◌∙◌, arith, ◌⊎◌, inl, inr}
use Rattle.std.proofs.lemmas.Bool.{cases_Bool, cond-true, cond-false}
use Rattle.std.proofs.lemmas.Bool.Decides.{nat_tests}
use Rattle.std.specs.Ordering.{eq_by_cmp, is_lt}
use Rattle.std.specs.FinMap as sets
use Rattle.std.specs.FinMap.Entries.{below_all}
use Rattle.tk_handle.specs.declared.dot.Dot.{Dot}
use Rattle.tk_handle.specs.Dot.{dot_cmp}
use Rattle.tk_vector.specs.VersionVector.{Vector, Covers}
use Rattle.tk_store.specs.FactSet.{dot_of}
use Rattle.tk_store.specs.Beyond.{is_beyond, beyond}
use Rattle.tk_store.specs.Walk.{is_above, above}
use Rattle.tk_store.specs.SlotJoining.{AllBelow}
use Rattle.tk_store.specs.SlotOrder.{SlotBelow}
use Rattle.tk_store.specs.Slots.{Slot, Slots}
use Rattle.tk_store.proofs.SlotOrderLaws.{below_trans}
use Rattle.tk_store.specs.Paging.{page, last_dot, TookPages, PagingCompletes}
use Rattle.tk_handle.proofs.TestLaws.{tied}
use Rattle.tk_handle.proofs.TestLaws.{and, both}
use Rattle.std.proofs.lemmas.Option.{none-some as none_is_not_some, same_Some as some_injective}

-- slots with their dots
abbrev pub Entries : Type 0
Entries = List (Dot × Slot)

-- a slot with its dot is an element of a list
abbrev pub IsIn : Dot → Slot → Entries → Type 0
IsIn d b [] = ⊥
IsIn d b (f ∷ fs) = ((f.0 ≡ d) × (f.1 ≡ b)) ⊎ IsIn d b fs

-- an entry that is found in a list is in it
in_found : (fs : Entries) (d : Dot) (b : Slot) → sets.find dot_cmp d fs ≡ Some b → IsIn d b fs
in_found [] d b h = absurd (none_is_not_some b h)
in_found (f ∷ fs) d b h = elim (cases_Bool (eq_by_cmp dot_cmp d f.0)) [
  | inl here ↦ inl (
    sym (tied d f.0 here),
    some_injective f.1 b
        (sym (cond-true (eq_by_cmp dot_cmp d f.0) (Some f.1) (sets.find dot_cmp d fs) here) ∙ h),
  )
  | inr more ↦ inr
      (in_found fs d b
      (sym (cond-false (eq_by_cmp dot_cmp d f.0) (Some f.1) (sets.find dot_cmp d fs) more) ∙ h))
]

-- an entry of a list that passes a test is kept by a filter with that test
in_kept : (p : Dot × Slot → Bool) (fs : Entries) (d : Dot) (b : Slot) → IsIn d b fs
    → p (d, b) ≡ true → IsIn d b (filter p fs)
in_kept p [] d b h passes = h
in_kept p (f ∷ fs) d b (inl here) passes =
    let same : p f ≡ true =
    ap (λ (x : Dot). p (x, f.1)) here.0 ∙ ap (λ (y : Slot). p (d, y)) here.1 ∙ passes in
    subst (IsIn d b) (sym (cond-true (p f) (f ∷ filter p fs) (filter p fs) same)) (inl here)
in_kept p (f ∷ fs) d b (inr more) passes =
    elim (p f) as (λ t. IsIn d b (cond t (f ∷ filter p fs) (filter p fs))) [
      | true ↦ inr (in_kept p fs d b more passes)
      | false ↦ in_kept p fs d b more passes
    ]

-- an entry of a list that is below a store is below it
pub in_all : (R : Slots) (fs : Entries) (d : Dot) (b : Slot) → IsIn d b fs → AllBelow R fs
    → SlotBelow (Some b) (sets.get R d)
in_all R [] d b h a = absurd h
in_all R (f ∷ fs) d b (inl here) a = moved here.0 here.1 a.0
  where
    moved : f.0 ≡ d → f.1 ≡ b → SlotBelow (Some f.1) (sets.get R f.0)
        → SlotBelow (Some b) (sets.get R d)
    moved i j k = rw (← i, ← j) k
in_all R (f ∷ fs) d b (inr more) a = in_all R fs d b more a.1

-- ---- a part of a list that rises, rises

-- a dot below all entries of a list is below those that a filter keeps
below_kept : (p : Dot × Slot → Bool) (x : Dot) (fs : Entries) → T (below_all dot_cmp x fs)
    → T (below_all dot_cmp x (filter p fs))
below_kept p x [] low = tt
below_kept p x (f ∷ fs) low =
    let l = both _ _ low in
    elim (p f) as
    (λ t. T (below_all dot_cmp x (cond t (f ∷ filter p fs) (filter p fs)))) [
      | true ↦ and (is_lt (dot_cmp x f.0)) _ l.0 (below_kept p x fs l.1)
      | false ↦ below_kept p x fs l.1
    ]

-- a filter keeps a list sorted
sorted_kept : (p : Dot × Slot → Bool) (fs : Entries) → T (sets.is_sorted dot_cmp fs)
    → T (sets.is_sorted dot_cmp (filter p fs))
sorted_kept p [] s = tt
sorted_kept p (f ∷ fs) s =
    let l = both _ _ s in
    elim (p f) as
    (λ t. T (sets.is_sorted dot_cmp (cond t (f ∷ filter p fs) (filter p fs)))) [
      | true ↦
          and (below_all dot_cmp f.0 (filter p fs)) _ (below_kept p f.0 fs l.0)
          (sorted_kept p fs l.1)
      | false ↦ sorted_kept p fs l.1
    ]

-- a dot below all entries of a list is below each entry in it
below_in : (x d : Dot) (b : Slot) (fs : Entries) → T (below_all dot_cmp x fs) → IsIn d b fs
    → is_lt (dot_cmp x d) ≡ true
below_in x d b [] low h = absurd h
below_in x d b (f ∷ fs) low (inl here) = ap (λ (y : Dot). is_lt (dot_cmp x y)) (sym here.0)
    ∙ is_true (is_lt (dot_cmp x f.0)) (both _ _ low).0
  where
    is_true : (t : Bool) → T t → t ≡ true
    is_true true h = refl
    is_true false h = absurd h
below_in x d b (f ∷ fs) low (inr more) = below_in x d b fs (both _ _ low).1 more

-- ---- an entry of a list that rises is among the first ones, or above the last of these

-- the last dot of a list is that of its rest, if the rest isn't empty
last_after : (f g : Dot × Slot) (fs : Entries) → last_dot (f ∷ g ∷ fs) ≡ last_dot (g ∷ fs)
last_after f g fs = ap (slice_get (f.0 ∷ g.0 ∷ map dot_of fs)) (step (length fs))
  where
    step : (n : ℕ) → suc (suc n) - 1 ≡ suc (suc n - 1)
    step n = omega arith

-- an entry is on the page, or above its last dot
pub in_page : (n : ℕ) (fs : Entries) (d : Dot) (b : Slot) → T (sets.is_sorted dot_cmp fs)
    → IsIn d b fs → 0 < n → IsIn d b (take n fs) ⊎ (is_above (last_dot (take n fs)) (d, b) ≡ true)
in_page zero fs d b s h some = absurd (omega arith)
in_page (suc n) [] d b s h some = absurd h
in_page (suc n) (f ∷ fs) d b s (inl here) some = inl (inl here)
in_page (suc zero) (f ∷ fs) d b s (inr more) some = inr (below_in f.0 d b fs (both _ _ s).0 more)
in_page (suc (suc n)) (f ∷ []) d b s (inr more) some = absurd more
in_page (suc (suc n)) (f ∷ g ∷ fs) d b s (inr more) some =
    elim (in_page (suc n) (g ∷ fs) d b (both _ _ s).1 more (omega arith)) [
      | inl page_has ↦ inl (inr page_has)
      | inr after ↦
          inr (subst (λ o. is_above o (d, b) ≡ true) (sym (last_after f g (take n fs))) after)
    ]

-- ---- all pages

-- an entry that a vector doesn't cover, above the cursor, is beyond both
pub in_beyond : (S : Slots) (v : Vector) (after : Option Dot) (d : Dot) (b : Slot)
    → sets.get S d ≡ Some b → is_beyond v (d, b) ≡ true → is_above after (d, b) ≡ true
    → IsIn d b (beyond S v after)
in_beyond S v after d b known free past =
    in_kept (is_beyond v) (above S after) d b
    (in_kept (is_above after) (sets.entries S) d b
    (in_found (sets.entries S) d b (sym (sets.get-entries S d) ∙ known)) past) free

-- what is beyond a vector and a cursor rises
pub rises : (S : Slots) (v : Vector) (after : Option Dot)
    → T (sets.is_sorted dot_cmp (beyond S v after))
rises S v after = sorted_kept (is_beyond v) (above S after)
    (sorted_kept (is_above after) (sets.entries S) (sets.entries_sorted S))

-- the first n of a list that isn't longer are all
pub take_whole : (n : ℕ) (fs : Entries) → length fs ≤ n → take n fs ≡ fs
take_whole zero [] h = refl
take_whole (suc n) [] h = refl
take_whole zero (f ∷ fs) h = absurd (omega arith)
take_whole (suc n) (f ∷ fs) h = ap (λ l. f ∷ l) (take_whole n fs (omega arith))

-- what is above a slot is a slot
pub above_known : (b : Slot) (o : Option Slot) → SlotBelow (Some b) o → (c : Slot) × (o ≡ Some c)
above_known b None h = absurd h
above_known b (Some c) h = (c, refl)

-- whether a slot is above a cursor depends on the dot alone
pub above_any : (after : Option Dot) (d : Dot) (b c : Slot) → is_above after (d, b) ≡ true
    → is_above after (d, c) ≡ true
above_any None d b c h = refl
above_any (Some e) d b c h = h

-- a receiver of all pages past a cursor knows each slot there that the vector doesn't cover
taken : (limit : ℕ) (v : Vector) (R : Slots) → 0 < limit
    → (later : List Slots) (after : Option Dot) (S : Slots) → TookPages limit v R after S later
    → (d : Dot) (b : Slot) → sets.get S d ≡ Some b → is_beyond v (d, b) ≡ true
    → is_above after (d, b) ≡ true → SlotBelow (Some b) (sets.get R d)
taken limit v R some [] after S took d b known free past =
    in_all R (page limit S v after) d b
    (subst (IsIn d b) (sym (take_whole limit (beyond S v after) took.1))
    (in_beyond S v after d b known free past)) took.0
taken limit v R some (U ∷ later) after S took d b known free past =
    elim (in_page limit (beyond S v after) d b (rises S v after)
    (in_beyond S v after d b known free past) some) [
      | inl page_has ↦ in_all R (page limit S v after) d b page_has took.0
      | inr further ↦
          let c = above_known b (sets.get U d) grown in
          below_trans (Some b) (Some c.0) (sets.get R d) (subst (SlotBelow (Some b)) c.1 grown)
          (taken limit v R some later (last_dot (page limit S v after)) U took.3 d c.0 c.1 free
          (above_any (last_dot (page limit S v after)) d b c.0 further))
    ]
  where
    grown : SlotBelow (Some b) (sets.get U d)
    grown = subst (λ o. SlotBelow o (sets.get U d)) known (took.2 d)

-- a dot that isn't beyond a vector is covered by it
pub covered : (v : Vector) (d : Dot) (b : Slot) → is_beyond v (d, b) ≡ false → Covers v d
covered v d b h = grind (arith, nat_tests)

-- a receiver that takes in each page has all
pub complete : PagingCompletes
complete limit v S R later some known took d = by_slot (sets.get S d) refl
  where
    by_slot : (o : Option Slot) → sets.get S d ≡ o → SlotBelow o (sets.get R d)
    by_slot None at = tt
    by_slot (Some b) at = elim (cases_Bool (is_beyond v (d, b))) [
      | inl free ↦ taken limit v R some later None S took d b at free refl
      | inr not_free ↦ subst (λ o. SlotBelow o (sets.get R d)) at (known d (covered v d b not_free))
    ]
