-- A walk over a table is one over its slots. Key results:
--   walks_on, walks_out   one step of a walk
--   last_serial_is        the greatest serial of a region
use Rattle.std.proofs.Common.{◌≡◌, ℕ, ◌<◌, ◌≤◌, true, false, cond, T, List, [], ◌∷◌, filter, length}
use Rattle.std.proofs.Common.{Option, Some, None, IsSome, is_some, option_map, slice_get, refl, sym}
use Rattle.std.proofs.Common.{ap, ◌∙◌, inl, inr, arith}
use Rattle.std.proofs.lemmas.Bool.{false≢true, cases_Bool, cond-true, cond-false, cases_lt}
use Rattle.std.proofs.lemmas.Cmp.{tied_itself}
use Rattle.std.specs.Ordering.{eq_by_cmp, is_eq, is_lt, ordering_reverse}
use Rattle.std.proofs.Common.{Ordering, Less, Equal, Greater}
use Rattle.std.specs.FinMap as sets
use Rattle.std.specs.FinMap.{find}
use Rattle.std.specs.FinMap.Entries.{below_all}
use Rattle.tk_handle.specs.declared.dot.Dot.{Dot}
use Rattle.tk_handle.specs.Dot.{dot_cmp, dot_cmp_total}
use Rattle.tk_dots.specs.Pages.{IsAbove, IsNext, IsLast}
use Rattle.tk_store.specs.declared.slot.SlotRef.{SlotRef}
use Rattle.tk_store.specs.NextDot.{last_serial}
use Rattle.tk_store.specs.SlotShown.{shown_slot, WalksOn}
use Rattle.tk_store.specs.Slots.{Slot, Slots}
use Rattle.tk_store.specs.Table.{Boxed, KeptMap, Shows, slot_of, slots_of, AreHome}
use Rattle.tk_store.specs.Walk.{is_above, above}
use Rattle.tk_store.proofs.EntryLaws.{AllIn-entries}
use Rattle.tk_handle.proofs.TestLaws.{tied}
use Rattle.tk_store.proofs.NextDotLaws.{at_most, at_most_last_serial}
use Rattle.tk_store.proofs.WalkLaws.{goes_on, at_end}
use Rattle.tk_handle.proofs.TestLaws.{both, is_true}
use Rattle.std.proofs.lemmas.Option.{none-some as none_is_not_some, same_Some as some_injective}
use Rattle.tk_store.proofs.TableLaws.{at, held_there, of_some, shown_kept}

-- ---- walking

module _ {X : Type 0} where
  -- each element of a list is above a dot that is below the list
  pub below_found : (k : Dot) (es : List (Dot × X)) (q : Dot) (c : X) → T (below_all dot_cmp k es)
      → find dot_cmp q es ≡ Some c → is_lt (dot_cmp k q) ≡ true
  below_found k [] q c low h = absurd (none_is_not_some c h)
  below_found k (e ∷ es) q c low h =
      let l = both _ _ low in
      elim (cases_Bool (eq_by_cmp dot_cmp q e.0)) [
        | inl same ↦ ap (λ (x : Dot). is_lt (dot_cmp k x)) (tied q e.0 same) ∙ is_true _ l.0
        | inr apart ↦ below_found k es q c l.1 (sym (cond-false _ _ _ apart) ∙ h)
      ]

  -- no element of the list is left out
  pub found_past : (e : Dot × X) (es : List (Dot × X)) (q : Dot) (c : X)
      → T (below_all dot_cmp e.0 es) → find dot_cmp q es ≡ Some c → find dot_cmp q (e ∷ es) ≡ Some c
  found_past e es q c low h = cond-false _ _ _
      (apart (dot_cmp e.0 q) (dot_cmp q e.0) (dot_cmp_total.antisymm q e.0)
      (below_found e.0 es q c low h))
      ∙ h
    where
      apart : (o p : Ordering) → p ≡ ordering_reverse o → is_lt o ≡ true → is_eq p ≡ false
      apart Less p e h = ap is_eq e
      apart Equal p e h = absurd (false≢true h)
      apart Greater p e h = absurd (false≢true h)

  -- the first entry above a dot, in a sorted list
  pub first_in : (a : Option Dot) (es : List (Dot × X)) (d : Dot) (b : X)
      → T (sets.is_sorted dot_cmp es) → find dot_cmp d es ≡ Some b → is_above a (d, b) ≡ true
      → ((q : Dot) (c : X) → find dot_cmp q es ≡ Some c → is_above a (q, c) ≡ true
      → is_lt (dot_cmp q d) ≡ false) → slice_get (filter (is_above a) es) 0 ≡ Some (d, b)
  first_in a [] d b s here up least = absurd (none_is_not_some b here)
  first_in a (e ∷ es) d b s here up least =
      let l = both _ _ s in
      elim (cases_Bool (eq_by_cmp dot_cmp d e.0)) [
        | inl same ↦
            let is : d ≡ e.0 = tied d e.0 same in
            let one : e.1 ≡ b = some_injective e.1 b (sym (cond-true _ _ _ same) ∙ here) in
            ap (λ t. slice_get (cond t (e ∷ filter (is_above a) es) (filter (is_above a) es)) 0)
            (moved a e d b is one up)
            ∙ ap (λ (f : Dot × X). Some f) (pair e.0 e.1 d b is one)
        | inr apart ↦
            let later : find dot_cmp d es ≡ Some b = sym (cond-false _ _ _ apart) ∙ here in
            elim (cases_Bool (is_above a e)) [
              | inl higher ↦ absurd
                  (false≢true
                  (sym (least e.0 e.1 (cond-true _ _ _ (ap is_eq (tied_itself dot_cmp_total e.0)))
                  higher)
                  ∙ below_found e.0 es d b l.0 later))
              | inr lower ↦
                  ap (λ t. slice_get (cond t (e ∷ filter (is_above a) es) (filter (is_above a) es))
                  0) lower
                  ∙ first_in a es d b l.1 later up (λ q c h. least q c (found_past e es q c l.0 h))
            ]
      ]
    where
      moved : (a : Option Dot) (e : Dot × X) (d : Dot) (b : X) → d ≡ e.0 → e.1 ≡ b
          → is_above a (d, b) ≡ true → is_above a e ≡ true
      moved None e d b i j up = refl
      moved (Some x) e d b i j up = ap (λ (y : Dot). is_lt (dot_cmp x y)) (sym i) ∙ up

      pair : (x : Dot) (y : X) (d : Dot) (b : X) → d ≡ x → y ≡ b → ◌≡◌ {A = Dot × X} (x, y) (d, b)
      pair x y d b i j = ap (λ (z : Dot). (z, y)) (sym i) ∙ ap (λ (z : X). (d, z)) j

  -- no entry is above a dot if none of the list is
  pub none_in : (a : Option Dot) (es : List (Dot × X)) → T (sets.is_sorted dot_cmp es)
      → ((q : Dot) (c : X) → find dot_cmp q es ≡ Some c → is_above a (q, c) ≡ true → ⊥)
      → slice_get (filter (is_above a) es) 0 ≡ None
  none_in a [] s none = refl
  none_in a (e ∷ es) s none =
      let l = both _ _ s in
      elim (cases_Bool (is_above a e)) [
        | inl higher ↦ absurd
            (none e.0 e.1 (cond-true _ _ _ (ap is_eq (tied_itself dot_cmp_total e.0))) higher)
        | inr lower ↦
            ap (λ t. slice_get (cond t (e ∷ filter (is_above a) es) (filter (is_above a) es)) 0)
            lower
            ∙ none_in a es l.1 (λ q c h. none q c (found_past e es q c l.0 h))
      ]

-- an entry that the test finds above is above
pub up_of : {X : Type 0} (a : Option Dot) (q : Dot) (c : X) → is_above a (q, c) ≡ true → IsAbove a q
up_of None q c h = tt
up_of (Some d) q c h = h

-- the test finds an entry that is above
pub up_is : {X : Type 0} (a : Option Dot) (q : Dot) (c : X) → IsAbove a q → is_above a (q, c) ≡ true
up_is None q c h = refl
up_is (Some d) q c h = h

module _ (m : KeptMap) (F : Slots) (seen : slots_of m ≡ F) (after : Option Dot) where
  -- a dot with a slot has something in the table
  there : (q : Dot) (c : Slot) → find dot_cmp q (sets.entries F) ≡ Some c → IsSome (sets.get m q)
  there q c h = held_there m F seen q (ap is_some (sets.get-entries F q ∙ h))

  -- the next in the table is the first slot above the cursor
  first : (d : Dot) (k : Option Boxed) → IsNext m after (Some (d, k))
      → slice_get (above F after) 0 ≡ Some (d, slot_of k)
  first d k next =
      let here : sets.get F d ≡ Some (slot_of k) =
      at m F seen d ∙ ap (option_map slot_of) next.held in
      first_in after (sets.entries F) d (slot_of k) (sets.entries_sorted F)
      (sym (sets.get-entries F d) ∙ here) (up_is after d (slot_of k) next.above)
      (λ q c h up. next.least q (up_of after q c up) (there q c h))

  -- the next slot of the table is the next of the walk
  pub walks_on : AreHome m → (d : Dot) (k : Option Boxed) (r : SlotRef)
      → IsNext m after (Some (d, k)) → Shows r k → WalksOn F after (Some (d, r))
  walks_on home d k r next shows =
      let s = shown_kept m F seen home d r k next.held shows in
      let at_first : slice_get (above F after) 0 ≡ Some (d, shown_slot r) =
      first d k next ∙ ap (λ (o : Option Slot). option_map (λ (x : Slot). (d, x)) o) s.0 in
      let on : above F after ≡ (d, shown_slot r) ∷ above F (Some d) =
      goes_on F after (d, shown_slot r) at_first in
      (on, s.1, let more = ap length on in omega arith)

  -- a table without a next slot ends the walk
  pub walks_out : IsNext m after None → above F after ≡ []
  walks_out next = at_end F after
      (none_in after (sets.entries F) (sets.entries_sorted F)
      (λ q c h up. false≢true (sym (ap is_some (next q (up_of after q c up))) ∙ there q c h)))

-- ---- the greatest serial

-- the last serial in the table is that of the slots
pub last_serial_is : (m : KeptMap) (F : Slots) → slots_of m ≡ F → (r n : ℕ) → IsLast m r n
    → n ≡ last_serial r (sets.entries F)
last_serial_is m F seen r n last =
    let low : last_serial r (sets.entries F) ≤ n =
    at_most F r n (sets.entries F) (AllIn-entries F)
    (λ q b h same. last.greatest q same (held_there m F seen q (ap is_some h))) in
    elim (cases_lt 0 n) [
      | inl some ↦ let high : n ≤ last_serial r (sets.entries F) =
          counts some (sets.get F (record { region = r; serial = n })) refl in omega arith
      | inr none ↦ omega arith
    ]
  where
    counts : 0 < n → (o : Option Slot) → sets.get F (record { region = r; serial = n }) ≡ o
        → n ≤ last_serial r (sets.entries F)
    counts some None h = absurd
        (false≢true
        (sym (ap is_some (sym (at m F seen (record { region = r; serial = n })) ∙ h))
        ∙ of_some _ (sets.get m (record { region = r; serial = n })) (last.there some)))
    counts some (Some b) h = at_most_last_serial r (sets.entries F)
        (record { region = r; serial = n }) b refl
        (sym (sets.get-entries F (record { region = r; serial = n })) ∙ h)
