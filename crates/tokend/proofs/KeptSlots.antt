-- What slots become with items joined to them. Key results:
--   from_items     each slot is as it was, or below what is above the items
--   left_twice     each slot is that, or was pruned, over two changes
--   unchanged      items that change nothing leave each slot
--   fits_lower     items that fit, and weren't dropped, fit what is below
--   items_lower    what is below stays below with the items
--   items_below    items that fit are below the slots with them
use Rattle.std.proofs.Common.{◌≡◌, ℕ, zero, suc, take, filter, Bool, true, false, ◌||◌, not, cond}
use Rattle.std.proofs.Common.{[], ◌∷◌, Option, Some, None, inl, inr, refl, sym, ap, subst, ◌∙◌}
use Rattle.std.specs.Prelude.{◌⊎◌}
use Rattle.std.specs.FinMap as map
use Rattle.tk_handle.specs.declared.dot.Dot.{Dot}
use Rattle.tk_fact.specs.declared.body.Body.{Body}
use Rattle.tk_fact.specs.Keeping.{is_passing}
use Rattle.tk_store.specs.Slots.{Slot, Slots, Held, Skipped, is_skipped, is_skipped_slot}
use Rattle.tk_store.specs.Slots.{joined_slot, with_slots}
use Rattle.tk_store.specs.SlotOrder.{SlotBelow, SlotsBelow, SlotAgrees}
use Rattle.tk_store.specs.SlotJoining.{AllBelow, AllFit}
use Rattle.tk_store.proofs.FitLaws.{fit_below}
use Rattle.tk_store.proofs.PutLaws.{by_dot, get_here}
use Rattle.tk_store.proofs.SlotOrderLaws.{below_trans, join_right}
use Rattle.tk_bundle.specs.BundleFields.{Items}
use Rattle.tk_bundle.specs.News.{changes_slot, changes_slots, counts}
use Rattle.tk_region.proofs.TakeLaws.{Avoids, Differs}
use Rattle.tk_handle.proofs.TestLaws.{neither}

-- the slot of a skipped dot
abbrev skipped : Slot
skipped = Skipped

-- slots with an item joined to them
abbrev joined : Slots → Dot × Slot → Slots
joined S i = map.insert S i.0 (joined_slot (map.get S i.0) i.1)

-- ---- where a slot comes from

-- the slot is as it was, or is below what U knows
abbrev pub IsFrom : Option Slot → Option Slot → Option Slot → Type 0
IsFrom u s t = (t ≡ s) ⊎ SlotBelow t u

-- a slot with one below U joined to it is as it was, or is below what U knows
joined_from : (u o : Option Slot) (s : Slot) → SlotBelow (Some s) u
    → IsFrom u o (Some (joined_slot o s))
joined_from u None s below = inr below
joined_from u (Some (Held x)) (Held y) below = inl refl
joined_from u (Some (Held x)) Skipped below = inr below
joined_from u (Some Skipped) s below = inl refl

-- a slot that comes from another by a third comes from it
pub from_twice : (u r s t : Option Slot) → IsFrom u r s → IsFrom u s t → IsFrom u r t
from_twice u r s t h (inr below) = inr below
from_twice u r s t (inl same) (inl again) = inl (again ∙ same)
from_twice u r s t (inr below) (inl again) = inr (subst (λ o. SlotBelow o u) (sym again) below)

-- a slot, or what U knows of its dot, is known
abbrev pub IsKnown : Option Slot → Option Slot → Type 0
IsKnown u s = (s ≡ None → ⊥) ⊎ (u ≡ None → ⊥)

-- the slot is as it was, or is below what U knows, or is the mark of a fact that was pruned
abbrev pub IsLeft : Bool → Option Slot → Option Slot → Option Slot → Type 0
IsLeft prunes u s t = IsFrom u s t ⊎ ((prunes ≡ true) × (t ≡ Some skipped) × IsKnown u s)

-- a slot that is there isn't missing
some_not_none : (s : Slot) → Some s ≡ None → ⊥
some_not_none s e = cc

-- what is above a known slot is known
below_known : (s u : Option Slot) → SlotBelow s u → (s ≡ None → ⊥) → u ≡ None → ⊥
below_known None u below some none = some refl
below_known (Some x) None below some none = below
below_known (Some x) (Some y) below some none = some_not_none y none

-- if a dot is known after a change, or to U, it was known before, or to U
known_before : (prunes : Bool) (u r s : Option Slot) → IsLeft prunes u r s → IsKnown u s
    → IsKnown u r
known_before prunes u r s h (inr some) = inr some
known_before prunes u r s (inl (inl same)) (inl some) = inl (λ none. some (same ∙ none))
known_before prunes u r s (inl (inr below)) (inl some) = inr (below_known s u below some)
known_before prunes u r s (inr gone) (inl some) = gone.2

-- a slot that is left of another by a third is left of it
pub left_twice : (prunes : Bool) (u r s t : Option Slot) → IsLeft prunes u r s → IsLeft prunes u s t
    → IsLeft prunes u r t
left_twice prunes u r s t h (inl (inr below)) = inl (inr below)
left_twice prunes u r s t (inl h) (inl (inl same)) = inl (from_twice u r s t h (inl same))
left_twice prunes u r s t (inr gone) (inl (inl same)) = inr (gone.0, same ∙ gone.1, gone.2)
left_twice prunes u r s t h (inr gone) = inr (gone.0, gone.1, known_before prunes u r s h gone.2)

-- what B skipped, S has skipped
abbrev pub SkipsStay : Slots → Slots → Type 0
SkipsStay B S = (d : Dot) → map.get B d ≡ Some skipped → map.get S d ≡ Some skipped

-- a mark stays a mark with any slot joined to it
joined_stays : (o : Option Slot) (s : Slot) → o ≡ Some skipped
    → Some (joined_slot o s) ≡ Some skipped
joined_stays o s e = ap (λ p. Some (joined_slot p s)) e

-- what B skipped stays skipped in S with an item joined
stays_joined : (B S : Slots) (i : Dot × Slot) → SkipsStay B S → SkipsStay B (joined S i)
stays_joined B S i stays d at =
    by_dot (λ o. o ≡ Some skipped) S i.0 (joined_slot (map.get S i.0) i.1) d
    (λ same. joined_stays (map.get S i.0) i.1 (stays i.0 (ap (map.get B) (sym same) ∙ at)))
    (stays d at)

-- what tests as skipped is a mark
is_mark_of : (o : Option Slot) → is_skipped_slot o ≡ true → o ≡ Some skipped
is_mark_of None e = absurd (cc)
is_mark_of (Some (Held b)) e = absurd (cc)
is_mark_of (Some Skipped) e = refl

-- an item that is dropped is at a skipped dot
dropped_is : (B : Slots) (i : Dot × Slot) → counts B i ≡ false → map.get B i.0 ≡ Some skipped
dropped_is B (d, Held b) e = is_mark_of (map.get B d) (of (is_skipped B d) e)
  where
    of : (t : Bool) → not t ≡ false → t ≡ true
    of true e = refl
    of false e = absurd (cc)
dropped_is B (d, Skipped) e = absurd (cc)

-- each slot is as it was, or below what is above the items that weren't dropped
pub from_items : (B S U : Slots) (items : Items) → SkipsStay B S
    → AllBelow U (filter (counts B) items) → (d : Dot)
    → IsFrom (map.get U d) (map.get S d) (map.get (with_slots S items) d)
from_items B S U [] stays all d = inl refl
from_items B S U (i ∷ more) stays all d =
    by (λ a. from_items B (joined S i) U more (stays_joined B S i stays) a d) (counts B i) refl all
  where
    step : IsFrom (map.get U i.0) (map.get S i.0) (Some (joined_slot (map.get S i.0) i.1))
        → IsFrom (map.get U d) (map.get S d) (map.get (joined S i) d)
    step here =
        by_dot (λ o. IsFrom (map.get U d) (map.get S d) o) S i.0 (joined_slot (map.get S i.0) i.1) d
        (λ same. subst (λ q.
        IsFrom (map.get U q) (map.get S q) (Some (joined_slot (map.get S i.0) i.1)))
        (sym same) here) (inl refl)

    by : (AllBelow U (filter (counts B) more)
        → IsFrom (map.get U d) (map.get (joined S i) d) (map.get (with_slots (joined S i) more) d))
        → (t : Bool) → counts B i ≡ t
        → AllBelow U (cond t (i ∷ filter (counts B) more) (filter (counts B) more))
        → IsFrom (map.get U d) (map.get S d) (map.get (with_slots (joined S i) more) d)
    by after true e all =
        from_twice (map.get U d) (map.get S d) (map.get (joined S i) d)
        (map.get (with_slots (joined S i) more) d)
        (step (joined_from (map.get U i.0) (map.get S i.0) i.1 all.0)) (after all.1)
    by after false e all =
        let here : Some (joined_slot (map.get S i.0) i.1) ≡ map.get S i.0 =
        joined_stays (map.get S i.0) i.1 (stays i.0 (dropped_is B i e))
        ∙ sym (stays i.0 (dropped_is B i e)) in
        from_twice (map.get U d) (map.get S d) (map.get (joined S i) d)
        (map.get (with_slots (joined S i) more) d)
        (step (inl here)) (after all)

-- each slot is as it was, or below what is above all items
pub items_from : (U S : Slots) (items : Items) → AllBelow U items → (d : Dot)
    → IsFrom (map.get U d) (map.get S d) (map.get (with_slots S items) d)
items_from U S [] all d = inl refl
items_from U S (i ∷ more) all d =
    from_twice (map.get U d) (map.get S d) (map.get (joined S i) d)
    (map.get (with_slots (joined S i) more) d)
    (by_dot (λ o. IsFrom (map.get U d) (map.get S d) o) S i.0 (joined_slot (map.get S i.0) i.1) d
    (λ same. subst (λ q.
    IsFrom (map.get U q) (map.get S q) (Some (joined_slot (map.get S i.0) i.1))) (sym same)
    (joined_from (map.get U i.0) (map.get S i.0) i.1 all.0)) (inl refl))
    (items_from U (joined S i) more all.1 d)

-- the first items of a list that are kept are among those that are
pub below_first : (U : Slots) (p : Dot × Slot → Bool) (k : ℕ) (items : Items)
    → AllBelow U (filter p items) → AllBelow U (filter p (take k items))
below_first U p zero items all = tt
below_first U p (suc k) [] all = tt
below_first U p (suc k) (i ∷ more) all = by (λ a. below_first U p k more a) (p i) all
  where
    by : (AllBelow U (filter p more) → AllBelow U (filter p (take k more))) → (t : Bool)
        → AllBelow U (cond t (i ∷ filter p more) (filter p more))
        → AllBelow U (cond t (i ∷ filter p (take k more)) (filter p (take k more)))
    by after true all = (all.0, after all.1)
    by after false all = after all

-- ---- items that change nothing

-- joining a slot that changes nothing leaves what is known of its dot
unchanged_slot : (o : Option Slot) (s : Slot) → changes_slot o s ≡ false
    → Some (joined_slot o s) ≡ o
unchanged_slot None s e = absurd (cc)
unchanged_slot (Some Skipped) s e = refl
unchanged_slot (Some (Held b)) (Held c) e = refl
unchanged_slot (Some (Held b)) Skipped e = absurd (cc)

-- items that change nothing in S leave each slot of T as in S, if T was equal to S
same_items : (S T : Slots) (items : Items) → ((d : Dot) → map.get T d ≡ map.get S d)
    → changes_slots S items ≡ false → (d : Dot)
    → map.get (with_slots T items) d ≡ map.get S d
same_items S T [] same none d = same d
same_items S T (i ∷ more) same none d =
    let each = neither (changes_slot (map.get S i.0) i.1) (changes_slots S more) none in
    same_items S (joined T i) more
    (λ q. by_dot (λ o. o ≡ map.get S q) T i.0 (joined_slot (map.get T i.0) i.1) q
    (λ at. ap (λ o. Some (joined_slot o i.1)) (same i.0) ∙ unchanged_slot (map.get S i.0) i.1 each.0
    ∙ ap (map.get S) (sym at)) (same q))
    each.1 d

-- items that change nothing leave each slot
pub unchanged : (S : Slots) (items : Items) → changes_slots S items ≡ false → (d : Dot)
    → map.get (with_slots S items) d ≡ map.get S d
unchanged S items none d = same_items S S items (λ q. refl) none d

-- the first items of a list that changes nothing change nothing
pub first_unchanged : (S : Slots) (k : ℕ) (items : Items) → changes_slots S items ≡ false
    → changes_slots S (take k items) ≡ false
first_unchanged S zero items e = refl
first_unchanged S (suc k) [] e = refl
first_unchanged S (suc k) (i ∷ more) e =
    let each = neither (changes_slot (map.get S i.0) i.1) (changes_slots S more) e in
    ap (λ t. t || changes_slots S (take k more)) each.0 ∙ first_unchanged S k more each.1

-- ---- what is below

-- a fact that is held isn't a mark
not_held : (b : Body) → (true ≡ true → Held b ≡ skipped) → ⊥
not_held b h = no (h refl)
  where
    no : Held b ≡ skipped → ⊥
    no e = cc

-- a slot that agrees with what is known, and isn't dropped, agrees with what is below that
pub fit_lower : (l s : Option Slot) (x : Slot) → SlotBelow l s → SlotAgrees s (Some x)
    → (is_skipped_slot s ≡ true → x ≡ skipped) → SlotAgrees l (Some x)
fit_lower None s x below agrees drop = tt
fit_lower (Some (Held a)) None x below agrees drop = absurd below
fit_lower (Some (Held a)) (Some (Held c)) (Held y) below agrees drop = below ∙ agrees
fit_lower (Some (Held a)) (Some (Held c)) Skipped below agrees drop = ap is_passing below ∙ agrees
fit_lower (Some (Held a)) (Some Skipped) (Held y) below agrees drop = absurd (not_held y drop)
fit_lower (Some (Held a)) (Some Skipped) Skipped below agrees drop = below
fit_lower (Some Skipped) None x below agrees drop = absurd below
fit_lower (Some Skipped) (Some (Held c)) x below agrees drop = absurd below
fit_lower (Some Skipped) (Some Skipped) (Held y) below agrees drop = absurd (not_held y drop)
fit_lower (Some Skipped) (Some Skipped) Skipped below agrees drop = tt

-- an item at a skipped dot that isn't dropped is a mark
kept_drop : (S : Slots) (i : Dot × Slot) → counts S i ≡ true
    → is_skipped_slot (map.get S i.0) ≡ true → i.1 ≡ skipped
kept_drop S (d, Held b) e mark = absurd (of (is_skipped S d) e mark)
  where
    of : (t : Bool) → not t ≡ true → t ≡ true → ⊥
    of true e m = absurd (cc)
    of false e m = absurd (cc)
kept_drop S (d, Skipped) e mark = refl

-- items that fit, and weren't dropped, fit what is below
pub fits_lower : (L S : Slots) (items : Items) → SlotsBelow L S → AllFit S items
    → AllFit L (filter (counts S) items)
fits_lower L S [] below fit = tt
fits_lower L S (i ∷ more) below fit = by (fits_lower L S more below fit.1) (counts S i) refl
  where
    by : AllFit L (filter (counts S) more) → (t : Bool) → counts S i ≡ t
        → AllFit L (cond t (i ∷ filter (counts S) more) (filter (counts S) more))
    by after true e =
        (fit_lower (map.get L i.0) (map.get S i.0) i.1 (below i.0) fit.0 (kept_drop S i e), after)
    by after false e = after

-- what is below stays below if a slot that agrees is joined to both
both_joined : (l s : Option Slot) (x : Slot) → SlotBelow l s → SlotAgrees s (Some x)
    → SlotBelow (Some (joined_slot l x)) (Some (joined_slot s x))
both_joined None None (Held y) below agrees = refl
both_joined None None Skipped below agrees = tt
both_joined None (Some (Held c)) (Held y) below agrees = sym agrees
both_joined None (Some (Held c)) Skipped below agrees = tt
both_joined None (Some Skipped) (Held y) below agrees = agrees
both_joined None (Some Skipped) Skipped below agrees = tt
both_joined (Some (Held a)) None x below agrees = absurd below
both_joined (Some (Held a)) (Some (Held c)) (Held y) below agrees = below
both_joined (Some (Held a)) (Some (Held c)) Skipped below agrees = tt
both_joined (Some (Held a)) (Some Skipped) (Held y) below agrees = below
both_joined (Some (Held a)) (Some Skipped) Skipped below agrees = tt
both_joined (Some Skipped) None x below agrees = absurd below
both_joined (Some Skipped) (Some (Held c)) x below agrees = absurd below
both_joined (Some Skipped) (Some Skipped) x below agrees = tt

-- what is below stays below if a slot that agrees is joined to the upper one
one_joined : (l s : Option Slot) (x : Slot) → SlotBelow l s → SlotAgrees s (Some x)
    → SlotBelow l (Some (joined_slot s x))
one_joined None s x below agrees = tt
one_joined (Some (Held a)) None x below agrees = absurd below
one_joined (Some (Held a)) (Some (Held c)) (Held y) below agrees = below
one_joined (Some (Held a)) (Some (Held c)) Skipped below agrees = ap is_passing below ∙ agrees
one_joined (Some (Held a)) (Some Skipped) x below agrees = below
one_joined (Some Skipped) None x below agrees = absurd below
one_joined (Some Skipped) (Some (Held c)) x below agrees = absurd below
one_joined (Some Skipped) (Some Skipped) x below agrees = tt

-- a slot at one dot keeps the agreement at others
fits_after : (S : Slots) (d : Dot) (s : Slot) (items : Items) → Avoids d items → AllFit S items
    → AllFit (map.insert S d s) items
fits_after S d s [] v a = tt
fits_after S d s (i ∷ items) v a = (
  by_dot (λ o. SlotAgrees o (Some i.1)) S d s i.0 (λ same. absurd (v.0 same)) a.0,
  fits_after S d s items v.1 a.1,
)

-- what is below stays below with the items, or with those of them that pass a test
pub items_lower : (p : Dot × Slot → Bool) (L S : Slots) (items : Items) → Differs items
    → SlotsBelow L S → AllFit S items
    → SlotsBelow (with_slots L (filter p items)) (with_slots S items)
items_lower p L S [] differ below fit = below
items_lower p L S (i ∷ more) differ below fit =
    by (items_lower p (joined L i) (joined S i) more differ.1 both later)
    (items_lower p L (joined S i) more differ.1 above later) (p i)
  where
    later : AllFit (joined S i) more
    later = fits_after S i.0 (joined_slot (map.get S i.0) i.1) more differ.0 fit.1

    above : SlotsBelow L (joined S i)
    above q = by_dot (λ o. SlotBelow (map.get L q) o) S i.0 (joined_slot (map.get S i.0) i.1) q
        (λ same. subst (λ d. SlotBelow (map.get L d) (Some (joined_slot (map.get S i.0) i.1)))
        (sym same)
        (one_joined (map.get L i.0) (map.get S i.0) i.1 (below i.0) fit.0)) (below q)

    both : SlotsBelow (joined L i) (joined S i)
    both q =
        by_dot (λ o. SlotBelow o (map.get (joined S i) q)) L i.0 (joined_slot (map.get L i.0) i.1) q
        (λ same. subst (λ o. SlotBelow (Some (joined_slot (map.get L i.0) i.1)) o)
        (sym (ap (map.get (joined S i)) same ∙ get_here S i.0 (joined_slot (map.get S i.0) i.1)))
        (both_joined (map.get L i.0) (map.get S i.0) i.1 (below i.0) fit.0))
        (above q)

    by : SlotsBelow (with_slots (joined L i) (filter p more)) (with_slots (joined S i) more)
        → SlotsBelow (with_slots L (filter p more)) (with_slots (joined S i) more)
        → (t : Bool)
        → SlotsBelow (with_slots L (cond t (i ∷ filter p more) (filter p more)))
        (with_slots (joined S i) more)
    by taken left true = taken
    by taken left false = left

-- items that fit are below the slots with them
pub items_below : (S : Slots) (items : Items) → Differs items → AllFit S items
    → AllBelow (with_slots S items) items
items_below S [] v a = tt
items_below S (i ∷ more) v a =
    let T = joined S i in
    let fit = fits_after S i.0 (joined_slot (map.get S i.0) i.1) more v.0 a.1 in
    let here : SlotBelow (Some i.1) (map.get T i.0) =
    subst (λ o. SlotBelow (Some i.1) o) (sym (get_here S i.0 (joined_slot (map.get S i.0) i.1)))
    (join_right (map.get S i.0) i.1 a.0) in (
      below_trans (Some i.1) (map.get T i.0) (map.get (with_slots T more) i.0) here
          (fit_below T more fit i.0),
      items_below T more v.1 fit,
    )

-- items below slots are below what is above these
pub below_more : (S T : Slots) (items : Items) → SlotsBelow S T → AllBelow S items
    → AllBelow T items
below_more S T [] h all = tt
below_more S T (i ∷ more) h all = (
  below_trans (Some i.1) (map.get S i.0) (map.get T i.0) all.0
      (h i.0),
  below_more S T more h all.1,
)

-- of items below slots, those that pass a test are
pub below_some : (U : Slots) (p : Dot × Slot → Bool) (items : Items) → AllBelow U items
    → AllBelow U (filter p items)
below_some U p [] all = tt
below_some U p (i ∷ more) all = by (below_some U p more all.1) (p i)
  where
    by : AllBelow U (filter p more) → (t : Bool)
        → AllBelow U (cond t (i ∷ filter p more) (filter p more))
    by after true = (all.0, after)
    by after false = after
