-- A page has what a store knows of the first dots that a vector does not cover. Key results:
--   items_at-more   the items at one dot more
--   dots_are        the first dots that a vector does not cover are those of the page's items
--   page_is         a page made at these dots is the page of the store
--   page_fits       a page has a spelling
use Rattle.std.proofs.Common.{◌≡◌, ℕ, ◌+◌, ◌<◌, ◌≤◌, ◌-◌, Bool, true, false, ◌&&◌, ◌||◌, cond, T}
use Rattle.std.proofs.Common.{nat_lt, List, [], ◌∷◌, ◌++◌, get_or, length, map, max, min}
use Rattle.std.proofs.Common.{filter, take, zero, suc, Option, Some, None, slice_get, refl, sym, ap}
use Rattle.std.proofs.Common.{subst, ◌∙◌, append_assoc, arith}
use Rattle.std.specs.List.{AllByRecursion, cons_option, flat_map, list_any}
use Rattle.std.specs.Option.{option_map}
use Rattle.std.specs.FinMap as sets
use Rattle.std.specs.FinMap.Entries.{below_all}
use Rattle.std.proofs.lemmas.Bool.Decides.{nat_tests}
use Rattle.std.proofs.lemmas.Grind.{take_at_read}
use Rattle.std.proofs.lemmas.List.{length-take, length-map, take-take, take-map}
use Rattle.std.proofs.lemmas.List.Concat.{flat_map-append}
use Rattle.std.proofs.lemmas.List.Elements.{filter_map-append}
use Rattle.tk_handle.specs.declared.dot.Dot.{Dot}
use Rattle.tk_handle.specs.Dot.{dot_cmp}
use Rattle.tk_vector.specs.VersionVector.{Vector}
use Rattle.tk_store.specs.FactSet.{AllIn, dot_of, IsFactSet}
use Rattle.tk_store.specs.Beyond.{beyond, is_beyond}
use Rattle.tk_store.specs.Slots.{Slot, Slots, Held, Skipped, held_slot, is_skipped}
use Rattle.tk_store.specs.StoreFields.{StoreFields, held_facts}
use Rattle.tk_store.specs.WholeStores.{as_slot}
use Rattle.tk_store.proofs.SlotLaws.{get_held}
use Rattle.tk_fact.specs.declared.body.Body.{Body}
use Rattle.tk_fact.specs.Check.{refusal_of}
use Rattle.tk_fact.specs.FactBytes.{framed}
use Rattle.tk_handle.specs.DotBytes.{dot_field}
use Rattle.tk_format.specs.Format.{number_spelling, text_spelling}
use Rattle.std.specs.Int.{w16}
use Rattle.tk_store.specs.Walk.{above, is_above}
use Rattle.tk_handle.specs.Moment.{moment}
use Rattle.tk_store.proofs.EntryLaws.{AllIn-beyond}
use Rattle.tk_bundle.specs.declared.page.Page.{Page}
use Rattle.tk_bundle.specs.BundleFields.{Items, is_mark, of_facts}
use Rattle.tk_bundle.specs.Items.{item, mark_at, dot_size}
use Rattle.tk_bundle.specs.ItemLaws.{dot_length}
use Rattle.tk_bundle.specs.Versions.{kind_in, newest_kind, version_of, has_horizon}
use Rattle.tk_bundle.specs.VersionLaws.{horizon_told, facts_told}
use Rattle.tk_bundle.specs.Bundle.{ascends, max_items, bundle, HorizonFits}
use Rattle.tk_bundle.proofs.FitLaws.{plain_bytes, fits_with, plain_fits}
use Rattle.tk_bundle.specs.Page.{item_at, items_at, last_of, horizon_if, horizon_with, page_within}
use Rattle.tk_bundle.specs.Page.{IsPageAt, IsPageOf}
use Rattle.tk_handle.proofs.TestLaws.{and as pair, both, is_true}
use Rattle.tk_bundle.proofs.FitLaws.{all_append}

-- ---- what slots have at given dots

-- items among the slots are those that they have at their dots
pub items_at-dots : (S : Slots) (fs : Items) → AllIn S fs → items_at S (map dot_of fs) ≡ fs
items_at-dots S [] all = refl
items_at-dots S (f ∷ fs) all =
    ap (λ o. cons_option (option_map (λ slot. (f.0, slot)) o) (items_at S (map dot_of fs))) all.0
    ∙ ap (λ l. f ∷ l) (items_at-dots S fs all.1)

-- the items at the first i dots and at the next one are those at the first i + 1
pub items_at-more : (S : Slots) (dots : List Dot) (i : ℕ) (dot : Dot) → i < length dots
    → dot ≡ get_or dots i dot
    → items_at S (take i dots) ++ items_at S (dot ∷ []) ≡ items_at S (take (i + 1) dots)
items_at-more S dots i dot within is =
    sym (filter_map-append (item_at S) (take i dots) (dot ∷ []))
    ∙ ap (items_at S) (ap (λ d. take i dots ++ d ∷ []) is ∙ sym (take_at_read dots i dot within).1)

-- the dot of a fact that was skipped is that of a mark among the items
pub marks_at : (S : Slots) (dots : List Dot)
    → list_any (is_skipped S) dots ≡ list_any is_mark (items_at S dots)
marks_at S [] = refl
marks_at S (d ∷ dots) = by_slot (sets.get S d) refl (marks_at S dots)
  where
    by_slot : (o : Option Slot) → sets.get S d ≡ o
        → list_any (is_skipped S) dots ≡ list_any is_mark (items_at S dots)
        → list_any (is_skipped S) (d ∷ dots) ≡ list_any is_mark (items_at S (d ∷ dots))
    by_slot None is more = rw is more
    by_slot (Some (Held b)) is more = rw is more
    by_slot (Some Skipped) is more = rw is refl

-- the newest kind of two lists, one after the other
newest_append : (last : ℕ) (fs gs : Items)
    → newest_kind last (fs ++ gs) ≡ newest_kind (newest_kind last fs) gs
newest_append last [] gs = refl
newest_append last (f ∷ fs) gs = newest_append (max last (kind_in f.1)) fs gs

-- the newest kind with the item at one dot more
pub more_newest : (S : Slots) (dots : List Dot) (i : ℕ) (dot : Dot) (before after : ℕ)
    → i < length dots → dot ≡ get_or dots i dot
    → before ≡ newest_kind 0 (items_at S (take i dots))
    → after ≡ newest_kind before (items_at S (dot ∷ []))
    → after ≡ newest_kind 0 (items_at S (take (i + 1) dots))
more_newest S dots i dot before after within is so_far one =
    one ∙ ap (λ last. newest_kind last (items_at S (dot ∷ []))) so_far
    ∙ sym (newest_append 0 (items_at S (take i dots)) (items_at S (dot ∷ [])))
    ∙ ap (newest_kind 0) (items_at-more S dots i dot within is)

-- the bytes with the item at one dot more
pub more_written : (S : Slots) (dots : List Dot) (i : ℕ) (dot : Dot) (old before after : List ℕ)
    → i < length dots → dot ≡ get_or dots i dot
    → before ≡ old ++ flat_map item.spell (items_at S (take i dots))
    → after ≡ before ++ flat_map item.spell (items_at S (dot ∷ []))
    → after ≡ old ++ flat_map item.spell (items_at S (take (i + 1) dots))
more_written S dots i dot old before after within is so_far one =
    one ∙ ap (λ bytes. bytes ++ flat_map item.spell (items_at S (dot ∷ []))) so_far
    ∙ append_assoc old (flat_map item.spell (items_at S (take i dots)))
    (flat_map item.spell (items_at S (dot ∷ [])))
    ∙ ap (λ bytes. old ++ bytes)
    (sym (flat_map-append item.spell (items_at S (take i dots)) (items_at S (dot ∷ [])))
    ∙ ap (flat_map item.spell) (items_at-more S dots i dot within is))

-- the item at one dot more has a spelling
pub more_fits : (S : Slots) (dots : List Dot) (i : ℕ) (dot : Dot) → i < length dots
    → dot ≡ get_or dots i dot
    → AllByRecursion item.Fits (items_at S (take i dots))
    → AllByRecursion item.Fits (items_at S (dot ∷ []))
    → AllByRecursion item.Fits (items_at S (take (i + 1) dots))
more_fits S dots i dot within is so_far one =
    subst (AllByRecursion item.Fits) (items_at-more S dots i dot within is)
    (all_append (items_at S (take i dots)) (items_at S (dot ∷ [])) so_far one)

-- the first dots that a vector does not cover are those of the first slots
pub dots_are : (S : Slots) (v : Vector) (after : Option Dot) (limit : ℕ)
    → take limit (take (limit + 1) (map dot_of (beyond S v after)))
    ≡ map dot_of (take limit (beyond S v after))
dots_are S v after limit = take-take limit (limit + 1) (map dot_of (beyond S v after)) (omega arith)
    ∙ take-map dot_of limit (beyond S v after)

-- the first of a list of items are in the store
pub all_take : (S : Slots) (n : ℕ) (items : Items) → AllIn S items → AllIn S (take n items)
all_take S zero items all = tt
all_take S (suc n) [] all = tt
all_take S (suc n) (i ∷ more) all = (all.0, all_take S n more all.1)

-- the items at the dots of a page are the page's
page_items : (S : Slots) (v : Vector) (after : Option Dot) (limit : ℕ)
    → items_at S (map dot_of (take limit (beyond S v after))) ≡ take limit (beyond S v after)
page_items S v after limit = items_at-dots S (take limit (beyond S v after))
    (all_take S limit (beyond S v after) (AllIn-beyond S v after))

-- one dot more than there is room for shows whether more follow
pub page_more : (fs : Items) (limit : ℕ)
    → nat_lt limit (length (take (limit + 1) (map dot_of fs))) ≡ nat_lt limit (length fs)
page_more fs limit = ap (nat_lt limit)
    (length-take (limit + 1) (map dot_of fs) ∙ ap (min (limit + 1)) (length-map fs dot_of))
    ∙ same limit (length fs)
  where
    same : (m n : ℕ) → nat_lt m (min (m + 1) n) ≡ nat_lt m n
    same m n = grind (arith, nat_tests)

-- ---- the dots of a page rise

-- a dot below all items of a list is below the first of them, however many
below-take : (d : Dot) (n : ℕ) (es : Items) → T (below_all dot_cmp d es)
    → T (below_all dot_cmp d (take n es))
below-take d zero es h = tt
below-take d (suc n) [] h = tt
below-take d (suc n) (e ∷ es) h = let p = both _ _ h in pair _ _ p.0 (below-take d n es p.1)

-- a dot below all items of a list is below those that a filter keeps
below-filter : (p : Dot × Slot → Bool) (d : Dot) (es : Items) → T (below_all dot_cmp d es)
    → T (below_all dot_cmp d (filter p es))
below-filter p d [] h = tt
below-filter p d (e ∷ es) h =
    let l = both _ _ h in
    elim (p e) as
    (λ t. T (below_all dot_cmp d (cond t (e ∷ filter p es) (filter p es)))) [
      | true ↦ pair _ _ l.0 (below-filter p d es l.1)
      | false ↦ below-filter p d es l.1
    ]

-- the first items of a sorted list are sorted
sorted-take : (n : ℕ) (es : Items) → T (sets.is_sorted dot_cmp es)
    → T (sets.is_sorted dot_cmp (take n es))
sorted-take zero es h = tt
sorted-take (suc n) [] h = tt
sorted-take (suc n) (e ∷ es) h = let p = both _ _ h in
    pair _ _ (below-take e.0 n es p.0) (sorted-take n es p.1)

-- what a filter keeps of a sorted list is sorted
sorted-filter : (p : Dot × Slot → Bool) (es : Items) → T (sets.is_sorted dot_cmp es)
    → T (sets.is_sorted dot_cmp (filter p es))
sorted-filter p [] h = tt
sorted-filter p (e ∷ es) h =
    let l = both _ _ h in
    elim (p e) as
    (λ t. T (sets.is_sorted dot_cmp (cond t (e ∷ filter p es) (filter p es)))) [
      | true ↦ pair _ _ (below-filter p e.0 es l.0) (sorted-filter p es l.1)
      | false ↦ sorted-filter p es l.1
    ]

-- sorted items that are all above a dot ascend from it
ascends_above : (d : Dot) (es : Items) → T (below_all dot_cmp d es) → T (sets.is_sorted dot_cmp es)
    → ascends (Some d) es ≡ true
ascends_above d [] low sorted = refl
ascends_above d (e ∷ es) low sorted =
    let l = both _ _ low in
    let s = both _ _ sorted in
    ap (λ t. t && ascends (Some e.0) es) (is_true _ l.0) ∙ ascends_above e.0 es s.0 s.1

-- sorted items ascend
ascends_sorted : (es : Items) → T (sets.is_sorted dot_cmp es) → ascends None es ≡ true
ascends_sorted [] sorted = refl
ascends_sorted (e ∷ es) sorted = let s = both _ _ sorted in ascends_above e.0 es s.0 s.1

-- ---- a page in bytes

-- a page of the first dots beyond a vector and a cursor is the page of the store
pub page_is : (made : Page) (P : StoreFields) (v : Vector) (after : Option Dot) (limit : ℕ)
    (dots : List Dot) (more : Bool)
    → dots ≡ map dot_of (take limit (beyond P.slots v after))
    → more ≡ nat_lt limit (length (beyond P.slots v after)) → IsPageAt made P dots more
    → IsPageOf made (page_within limit P v after)
page_is made P v after limit dots more same follows at =
    let found = take limit (beyond P.slots v after) in
    let count : length dots ≡ length found = ap length same ∙ length-map found dot_of in
    let items : items_at P.slots dots ≡ found =
    ap (items_at P.slots) same ∙ page_items P.slots v after limit in
    record {
      bytes = at.bytes ∙ rw (count, items) (sym
          (plain_bytes (horizon_with P.horizon found) found));
      count = at.count ∙ count;
      last = at.last ∙ ap last_of same
          ∙ ap (λ n. slice_get (map dot_of found) (n - 1)) (length-map found dot_of);
      more = at.more ∙ follows;
    }

-- a page has a horizon exactly if its version has one
pub horizon_fits : (horizon : ℕ) (runs : Bool) (items : Items) → moment.Fits horizon
    → (runs || list_any is_mark items) ≡ list_any is_mark items
    → HorizonFits (version_of runs items) (horizon_with horizon items)
horizon_fits horizon runs items fits told =
    by_mark (list_any is_mark items) (horizon_told runs items ∙ told)
  where
    by_mark : (t : Bool) → has_horizon (version_of runs items) ≡ t
        → HorizonFits (version_of runs items) (horizon_if t horizon)
    by_mark true is = (fits, is)
    by_mark false is = is

-- the first slots that a vector does not cover rise
pub page_rises : (P : StoreFields) (v : Vector) (after : Option Dot) (limit : ℕ)
    → ascends None (take limit (beyond P.slots v after)) ≡ true
page_rises P v after limit = ascends_sorted (take limit (beyond P.slots v after))
    (sorted-take limit (beyond P.slots v after)
    (sorted-filter (is_beyond v) (above P.slots after)
    (sorted-filter (is_above after) (sets.entries P.slots) (sets.entries_sorted P.slots))))

-- a page has a spelling
pub page_fits : (P : StoreFields) (v : Vector) (after : Option Dot) (limit : ℕ) (dots : List Dot)
    → limit ≤ max_items → dots ≡ map dot_of (take limit (beyond P.slots v after))
    → moment.Fits P.horizon → AllByRecursion item.Fits (items_at P.slots dots)
    → bundle.Fits (page_within limit P v after).bundle
page_fits P v after limit dots low same horizon fits =
    let found = take limit (beyond P.slots v after) in
    let items : items_at P.slots dots ≡ found =
    ap (items_at P.slots) same ∙ page_items P.slots v after limit in
    let short : length found ≤ max_items =
    omega (arith, length-take limit (beyond P.slots v after)) in
    fits_with (horizon_with P.horizon found) false found
    (horizon_fits P.horizon false found horizon refl)
    (plain_fits found short (subst (AllByRecursion item.Fits) items fits))
    (page_rises P v after limit)

-- ---- single items

-- the length of a dot, and the dot, are the mark of the dot
pub mark_written : (d : Dot) (old mid new : List ℕ) → mid ≡ old ++ number_spelling w16 dot_size
    → new ≡ mid ++ dot_field.spell d → new ≡ old ++ item.spell (mark_at d)
unfolding text_spelling
mark_written d old mid new size dot =
    dot ∙ ap (λ bytes. bytes ++ dot_field.spell d) size
    ∙ append_assoc old (number_spelling w16 dot_size) (dot_field.spell d)
    ∙ ap (λ n. old ++ (number_spelling w16 n ++ dot_field.spell d)) (sym (dot_length d))

-- the bundle of one fact has a spelling
pub single_fits : (f : Dot × Body) → framed.Fits f → bundle.Fits (of_facts (f ∷ []))
single_fits f fits =
    let one = map as_slot (f ∷ []) in
    fits_with None false one (horizon_told false one ∙ facts_told (f ∷ []))
    (plain_fits one (omega arith) (fits, tt)) refl

-- a fact that a store holds at a dot passes its check
pub held_passes : (P : StoreFields) (d : Dot) (b : Body) → IsFactSet (held_facts P)
    → sets.get P.slots d ≡ Some (Held b) → refusal_of b ≡ None
held_passes P d b sound at = sound d b (get_held P.slots d ∙ ap held_slot at)
