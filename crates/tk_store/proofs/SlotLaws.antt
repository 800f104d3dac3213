-- The facts that slots hold. Key results:
--   get_held                          what is held at a dot
--   held_put, held_skip, held_taken   what is held after a slot was put or taken
--   held_none, empty_held             no slots, and an empty store
use Rattle.std.proofs.Common.{◌≡◌, ◌+◌, ◌-◌, Bool, true, false, cond, T, List, [], ◌∷◌}
use Rattle.std.proofs.Common.{Option, Some, None, is_some, refl, sym, ap, subst, ◌∙◌}
use Rattle.std.proofs.lemmas.Bool.{true≢false}
use Rattle.std.proofs.lemmas.Cmp.{tied_itself}
use Rattle.std.specs.Ordering.{eq_by_cmp, is_eq, is_lt}
use Rattle.std.specs.FinMap as map
use Rattle.std.specs.FinMap.Entries.{below_all}
use Rattle.tk_handle.specs.declared.dot.Dot.{Dot}
use Rattle.tk_handle.specs.Dot.{dot_cmp, dot_cmp_total, dot_cmp-IsAntisymmetric}
use Rattle.tk_fact.specs.declared.body.Body.{Body}
use Rattle.tk_store.specs.Slots.{Slot, Slots, Held, Skipped, held_slot, is_skipped_slot, is_skipped}
use Rattle.tk_store.specs.Slots.{held_entries, held_in}
use Rattle.tk_store.specs.StoreFields.{StoreFields, empty_store, held_facts}
use Rattle.tk_handle.proofs.TestLaws.{tied}
use Rattle.tk_handle.proofs.TestLaws.{and, both, not_tied as not_equal}
use Rattle.std.proofs.lemmas.Option.{none-some as none_is_not_some}

-- ---- the list of what is held

-- a dot below all slots of a list is below the facts that they hold
below_held : (d : Dot) (es : List (Dot × Slot)) → T (below_all dot_cmp d es)
    → T (below_all dot_cmp d (held_entries es))
below_held d [] low = tt
below_held d ((e, Held b) ∷ es) low =
    (let l = both _ _ low in and (is_lt (dot_cmp d e)) _ l.0 (below_held d es l.1))
below_held d ((e, Skipped) ∷ es) low = below_held d es (both _ _ low).1

-- the facts of sorted slots are sorted
pub sorted_held : (es : List (Dot × Slot)) → T (map.is_sorted dot_cmp es)
    → T (map.is_sorted dot_cmp (held_entries es))
sorted_held [] s = tt
sorted_held ((e, Held b) ∷ es) s = (let l = both _ _ s in
    and (below_all dot_cmp e (held_entries es)) _ (below_held e es l.0) (sorted_held es l.1))
sorted_held ((e, Skipped) ∷ es) s = sorted_held es (both _ _ s).1

-- a dot below a list is not found in it
pub absent_below : {X : Type 0} (d : Dot) (es : List (Dot × X)) → T (below_all dot_cmp d es)
    → map.find dot_cmp d es ≡ None
absent_below d [] low = refl
absent_below d (e ∷ es) low =
    let l = both _ _ low in
    ap (λ t. cond t (Some e.1) (map.find dot_cmp d es)) (not_equal (dot_cmp d e.0) l.0)
    ∙ absent_below d es l.1

-- the fact at a dot is that of its slot
pub find_held : (q : Dot) (es : List (Dot × Slot)) → T (map.is_sorted dot_cmp es)
    → map.find dot_cmp q (held_entries es) ≡ held_slot (map.find dot_cmp q es)
find_held q [] s = refl
find_held q ((e, Held b) ∷ es) s =
    elim (eq_by_cmp dot_cmp q e) as
    (λ t. cond t (Some b) (map.find dot_cmp q (held_entries es))
    ≡ held_slot (cond t (Some (Held b)) (map.find dot_cmp q es))) [
      | true ↦ refl
      | false ↦ find_held q es (both _ _ s).1
    ]
find_held q ((e, Skipped) ∷ es) s =
    find_held q es (both _ _ s).1
    ∙ elim (eq_by_cmp dot_cmp q e) as
    (λ t. eq_by_cmp dot_cmp q e ≡ t
    → held_slot (map.find dot_cmp q es)
    ≡ held_slot (cond t (Some Skipped) (map.find dot_cmp q es))) [
      | true ↦ λ same. ap held_slot
          (subst (λ (d : Dot). map.find dot_cmp d es ≡ None) (sym (tied q e same))
          (absent_below e es (both _ _ s).0))
      | false ↦ λ _. refl
    ] refl

-- the facts that are held are those of the slots, in order
pub entries_held : (S : Slots) → map.entries (held_in S) ≡ held_entries (map.entries S)
entries_held S =
    map.entries-from_sorted dot_cmp _ (sorted_held (map.entries S) (map.entries_sorted S))

-- the fact that is held at a dot is that of its slot
pub get_held : (S : Slots) (q : Dot) → map.get (held_in S) q ≡ held_slot (map.get S q)
get_held S q =
    map.get-entries (held_in S) q ∙ ap (map.find dot_cmp q) (entries_held S)
    ∙ find_held q (map.entries S) (map.entries_sorted S) ∙ ap held_slot (sym (map.get-entries S q))

-- ---- slots put and taken

-- one of two slots, chosen by a test, holds the body that the test chooses of theirs
slot_if : (t : Bool) (s : Slot) (o : Option Slot)
    → held_slot (cond t (Some s) o) ≡ cond t (held_slot (Some s)) (held_slot o)
slot_if true s o = refl
slot_if false s o = refl

-- a slot that a test leaves out holds no body by that test
none_if : (t : Bool) (o : Option Slot) → held_slot (cond t None o) ≡ cond t None (held_slot o)
none_if true o = refl
none_if false o = refl

-- a slot with a fact holds one more
pub held_put : (S : Slots) (d : Dot) (b : Body)
    → held_in (map.insert S d (Held b)) ≡ map.insert (held_in S) d b
held_put S d b = map.same_map dot_cmp_total dot_cmp-IsAntisymmetric _ _ (λ q.
    get_held (map.insert S d (Held b)) q
    ∙ ap held_slot (map.get-insert dot_cmp_total S d (Held b) q)
    ∙ slot_if (eq_by_cmp dot_cmp q d) (Held b) (map.get S q)
    ∙ ap (cond (eq_by_cmp dot_cmp q d) (Some b)) (sym (get_held S q))
    ∙ sym (map.get-insert dot_cmp_total (held_in S) d b q))

-- a fact that became a mark is not held
pub held_skip : (S : Slots) (d : Dot) → held_in (map.insert S d Skipped) ≡ map.remove (held_in S) d
held_skip S d = map.same_map dot_cmp_total dot_cmp-IsAntisymmetric _ _ (λ q.
    get_held (map.insert S d Skipped) q
    ∙ ap held_slot (map.get-insert dot_cmp_total S d Skipped q)
    ∙ slot_if (eq_by_cmp dot_cmp q d) Skipped (map.get S q)
    ∙ ap (cond (eq_by_cmp dot_cmp q d) None) (sym (get_held S q))
    ∙ sym (map.get-remove dot_cmp_total (held_in S) d q))

-- a slot that was taken out holds no fact
pub held_taken : (S : Slots) (d : Dot) → held_in (map.remove S d) ≡ map.remove (held_in S) d
held_taken S d = map.same_map dot_cmp_total dot_cmp-IsAntisymmetric _ _ (λ q.
    get_held (map.remove S d) q
    ∙ ap held_slot (map.get-remove dot_cmp_total S d q)
    ∙ none_if (eq_by_cmp dot_cmp q d) (map.get S q)
    ∙ ap (cond (eq_by_cmp dot_cmp q d) None) (sym (get_held S q))
    ∙ sym (map.get-remove dot_cmp_total (held_in S) d q))

-- removing at a free dot changes nothing
pub remove_free : {X : Type 0} (F : map.FinMap dot_cmp X) (d : Dot) → map.get F d ≡ None
    → map.remove F d ≡ F
remove_free F d free = map.same_map dot_cmp_total dot_cmp-IsAntisymmetric _ _ (λ q.
    map.get-remove dot_cmp_total F d q
    ∙ elim (eq_by_cmp dot_cmp q d) as
    (λ t. eq_by_cmp dot_cmp q d ≡ t → cond t None (map.get F q) ≡ map.get F q) [
      | true ↦ λ same. sym free ∙ ap (map.get F) (sym (tied q d same))
      | false ↦ λ _. refl
    ] refl)

-- a map without an entry has one less
pub len_less : {X : Type 0} (F : map.FinMap dot_cmp X) (d : Dot) (x : X) → map.get F d ≡ Some x
    → map.len (map.remove F d) + 1 ≡ map.len F
len_less F d x there =
    let less : map.len (map.remove F d) ≡ map.len F - 1 =
    map.len-remove dot_cmp_total F d
    ∙ ap (λ o. cond (is_some o) (map.len F - 1) (map.len F)) there in
    let again : map.insert (map.remove F d) d x ≡ F =
    map.same_map dot_cmp_total dot_cmp-IsAntisymmetric _ _ (λ q.
    map.get-insert dot_cmp_total (map.remove F d) d x q
    ∙ elim (eq_by_cmp dot_cmp q d) as
    (λ t. eq_by_cmp dot_cmp q d ≡ t → cond t (Some x) (map.get (map.remove F d) q) ≡ map.get F q) [
      | true ↦ λ same. sym there ∙ ap (map.get F) (sym (tied q d same))
      | false ↦ λ off. map.get-remove dot_cmp_total F d q ∙ ap (λ t. cond t None (map.get F q)) off
    ] refl) in
    let free : map.get (map.remove F d) d ≡ None =
    map.get-remove dot_cmp_total F d d
    ∙ ap (λ o. cond (is_eq o) None (map.get F d)) (tied_itself dot_cmp_total d) in
    let more : map.len (map.insert (map.remove F d) d x) ≡ map.len (map.remove F d) + 1 =
    map.len-insert dot_cmp_total (map.remove F d) d x
    ∙ ap (λ o. cond (is_some o) (map.len (map.remove F d)) (map.len (map.remove F d) + 1)) free in
    sym more ∙ ap (λ (G : map.FinMap dot_cmp _). map.len G) again

-- no slots hold no fact
pub held_none : (S : Slots) → S ≡ map.empty → held_in S ≡ map.empty
held_none S none = map.same_map dot_cmp_total dot_cmp-IsAntisymmetric _ _ (λ q.
    get_held S q ∙ ap held_slot (ap (λ (R : Slots). map.get R q) none ∙ map.get-empty dot_cmp q)
    ∙ sym (map.get-empty dot_cmp q))

-- an empty store holds no facts
pub empty_held : (P : StoreFields) → P ≡ empty_store → held_facts P ≡ map.empty
empty_held P is = held_none P.slots (ap (λ (Q : StoreFields). Q.slots) is)

-- ---- marks

-- a slot that is skipped is a mark
pub marked_is : (o : Option Slot) → is_skipped_slot o ≡ true → o ≡ Some Skipped
marked_is None h = absurd (true≢false (sym h))
marked_is (Some (Held b)) h = absurd (true≢false (sym h))
marked_is (Some Skipped) h = refl

-- ---- slots none of which is a mark

-- a dot that isn't skipped and holds no body has no slot
whole_none : (o : Option Slot) → is_skipped_slot o ≡ false → held_slot o ≡ None → o ≡ None
whole_none None h k = refl
whole_none (Some (Held c)) h k = absurd (none_is_not_some c (sym k))
whole_none (Some Skipped) h k = absurd (true≢false h)

-- a dot that is no mark and holds no fact is free
pub whole_free : (S : Slots) (d : Dot) → is_skipped S d ≡ false → map.get (held_in S) d ≡ None
    → map.get S d ≡ None
whole_free S d whole at = whole_none (map.get S d) whole (sym (get_held S d) ∙ at)
