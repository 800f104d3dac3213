-- A bundle without some of its facts is a bundle. Key results:
--   news_fits      what isn't dropped of a bundle has a spelling
--   version_kept   a bundle with a horizon has a mark that isn't dropped
--   record_bytes, runs_record_bytes   the bytes of what isn't dropped, without runs and with them
use Rattle.std.proofs.Common.{◌≡◌, ℕ, ◌+◌, ◌<◌, ◌≤◌, ◌^◌, suc, Bool, true, false, ◌||◌, cond}
use Rattle.std.proofs.Common.{nat_le}
use Rattle.std.proofs.Common.{List, [], ◌∷◌, ◌++◌, length, filter, map, Option, None, Some, is_some}
use Rattle.std.proofs.Common.{refl, sym, ap, ◌∙◌, arith, ltb-true, lt-ltb as true-ltb}
use Rattle.std.specs.Int.{w16}
use Rattle.std.specs.List.{AllByRecursion, flat_map, list_any}
use Rattle.std.specs.Ordering.{is_lt}
use Rattle.std.proofs.lemmas.Bool.Decides.{nat_tests}
use Rattle.tk_handle.specs.declared.dot.Dot.{Dot}
use Rattle.tk_handle.specs.Dot.{dot_cmp, dot_cmp_total}
use Rattle.tk_store.specs.Slots.{Slot, Slots, Held, Skipped}
use Rattle.tk_bundle.specs.BundleFields.{BundleFields, Items, is_mark}
use Rattle.tk_fact.specs.declared.body.Body.{Body}
use Rattle.tk_format.specs.Format.{number}
use Rattle.tk_bundle.specs.Bundle.{ascends, magic, max_items, items_by, bundle, bundle_bytes}
use Rattle.tk_bundle.specs.Bundle.{horizon_bytes, HorizonFits}
use Rattle.tk_bundle.specs.Pieces.{continues_at, grouped}
use Rattle.tk_bundle.specs.PieceCounts.{marked_item, piece_count}
use Rattle.tk_bundle.specs.RunPage.{pieces_bytes}
use Rattle.tk_bundle.proofs.FitLaws.{AreRuns, fits_with, items_rise, marks_told, plain_bytes}
use Rattle.tk_bundle.proofs.FitLaws.{runs_are, runs_bytes, runs_fit, spelled_items, time_fits}
use Rattle.tk_bundle.proofs.PieceCountLaws.{counted}
use Rattle.tk_bundle.specs.Items.{item}
use Rattle.tk_bundle.specs.News.{counts, news_of}
use Rattle.tk_bundle.specs.Versions.{has_horizon, newest_kind, version_of, version_with}
use Rattle.tk_bundle.specs.VersionLaws.{horizon_told}
use Rattle.tk_handle.proofs.TestLaws.{less}
use Rattle.std.proofs.lemmas.Bool.{and_from as joined, and_parts as both_true}

-- no mark is left out
marks_kept : (S : Slots) (items : Items)
    → list_any is_mark (filter (counts S) items) ≡ list_any is_mark items
marks_kept S [] = refl
marks_kept S ((d, Skipped) ∷ more) = refl
marks_kept S ((d, Held b) ∷ more) = elim (counts S (d, Held b)) as
    (λ t. list_any is_mark (cond t ((d, Held b) ∷ filter (counts S) more) (filter (counts S) more))
    ≡ list_any is_mark more) [
      | true ↦ marks_kept S more
      | false ↦ marks_kept S more
    ]

-- what isn't dropped of items has a horizon if they have one
times_kept : (S : Slots) (runs : Bool) (items : Items)
    → has_horizon (version_of runs (filter (counts S) items))
    ≡ has_horizon (version_of runs items)
times_kept S runs items =
    horizon_told runs (filter (counts S) items) ∙ ap (λ t. runs || t) (marks_kept S items)
    ∙ sym (horizon_told runs items)

-- a horizon fits the version of the items that aren't dropped if it fits that of all items
horizon_kept : (S : Slots) (runs : Bool) (items : Items) (horizon : Option ℕ)
    → HorizonFits (version_of runs items) horizon
    → HorizonFits (version_of runs (filter (counts S) items)) horizon
horizon_kept S runs items None fits = times_kept S runs items ∙ fits
horizon_kept S runs items (Some moment) fits = (fits.0, times_kept S runs items ∙ fits.1)

-- a bundle has a horizon exactly if a mark is among what isn't dropped of it
horizon_shows : (S : Slots) (b : BundleFields) → bundle.Fits b
    → is_some b.horizon ≡ list_any is_mark (filter (counts S) b.items)
horizon_shows S b fits =
    by_horizon b.horizon (time_fits b fits) ∙ horizon_told b.runs b.items ∙ marks_told b fits
    ∙ sym (marks_kept S b.items)
  where
    by_horizon : (o : Option ℕ) → HorizonFits (version_of b.runs b.items) o
        → is_some o ≡ has_horizon (version_of b.runs b.items)
    by_horizon None at = sym at
    by_horizon (Some moment) at = sym at.1

-- the version of what isn't dropped of a bundle has marks exactly if the bundle has a horizon
pub version_kept : (S : Slots) (b : BundleFields) → bundle.Fits b
    → version_with (newest_kind 0 (filter (counts S) b.items)) (is_some b.horizon) b.runs
    ≡ version_of b.runs (filter (counts S) b.items)
version_kept S b fits =
    ap (λ t. version_with (newest_kind 0 (filter (counts S) b.items)) t b.runs)
    (horizon_shows S b fits)

-- a filter makes no list longer
no_longer : {A : Type 0} (p : A → Bool) (xs : List A) → length (filter p xs) ≤ length xs
no_longer p [] = omega arith
no_longer p (x ∷ xs) =
    elim (p x) as (λ t. length (cond t (x ∷ filter p xs) (filter p xs)) ≤ suc (length xs)) [
      | true ↦ omega (arith, no_longer p xs)
      | false ↦ omega (arith, no_longer p xs)
    ]

-- the items that a filter keeps have a spelling if all items do
all_kept : (p : Dot × Slot → Bool) (items : Items) → AllByRecursion item.Fits items
    → AllByRecursion item.Fits (filter p items)
all_kept p [] all = tt
all_kept p (i ∷ more) all =
    elim (p i) as (λ t. AllByRecursion item.Fits (cond t (i ∷ filter p more) (filter p more))) [
      | true ↦ (all.0, all_kept p more all.1)
      | false ↦ all_kept p more all.1
    ]

-- items above a dot are above each dot below that
above_lower : (d e : Dot) (items : Items) → is_lt (dot_cmp d e) ≡ true
    → ascends (Some e) items ≡ true → ascends (Some d) items ≡ true
above_lower d e [] low rise = refl
above_lower d e (i ∷ more) low rise =
    let r = both_true (is_lt (dot_cmp e i.0)) (ascends (Some i.0) more) rise in
    joined (is_lt (dot_cmp d i.0)) (ascends (Some i.0) more)
    (ap is_lt (dot_cmp_total.trans d e i.0 (less (dot_cmp d e) low) (less (dot_cmp e i.0) r.0))) r.1

-- what a filter keeps of items that rise above a dot rises above it
rise_above : (p : Dot × Slot → Bool) (d : Dot) (items : Items) → ascends (Some d) items ≡ true
    → ascends (Some d) (filter p items) ≡ true
rise_above p d [] rise = refl
rise_above p d (i ∷ more) rise =
    let r = both_true (is_lt (dot_cmp d i.0)) (ascends (Some i.0) more) rise in
    elim (p i) as (λ t. ascends (Some d) (cond t (i ∷ filter p more) (filter p more)) ≡ true) [
      | true ↦ joined (is_lt (dot_cmp d i.0)) (ascends (Some i.0) (filter p more)) r.0
          (rise_above p i.0 more r.1)
      | false ↦ rise_above p d more (above_lower d i.0 more r.0 r.1)
    ]

-- items that rise above a dot rise
above_none : (d : Dot) (items : Items) → ascends (Some d) items ≡ true → ascends None items ≡ true
above_none d [] rise = refl
above_none d (i ∷ more) rise = (both_true (is_lt (dot_cmp d i.0)) (ascends (Some i.0) more) rise).1

-- what a filter keeps of items that rise rises
rise_kept : (p : Dot × Slot → Bool) (items : Items) → ascends None items ≡ true
    → ascends None (filter p items) ≡ true
rise_kept p [] rise = refl
rise_kept p (i ∷ more) rise =
    elim (p i) as (λ t. ascends None (cond t (i ∷ filter p more) (filter p more)) ≡ true) [
      | true ↦ rise_above p i.0 more rise
      | false ↦ above_none i.0 (filter p more) (rise_above p i.0 more rise)
    ]

-- ---- pieces

-- a dot without a mark continues no mark
no_mark : (last : Option Dot) (d : Dot) → continues_at last d false ≡ false
no_mark None d = refl
no_mark (Some e) d = refl

-- a fact is a piece of its own
fact_counted : (last : Option Dot) (d : Dot) (b : Body) (more : Items)
    → piece_count last (map marked_item ((d, Held b) ∷ more))
    ≡ suc (piece_count None (map marked_item more))
fact_counted last d b more = rw (no_mark last d) refl

-- without some facts, items are fewer pieces, by at least as many
fewer : (S : Slots) (last : Option Dot) (fresh : Bool) (items : Items)
    → piece_count last (map marked_item (filter (counts S) items)) + length items
    ≤ piece_count (cond fresh None last) (map marked_item items) + length (filter (counts S) items)
fewer S last fresh [] = omega arith
fewer S last true ((d, Skipped) ∷ more) =
    of (continues_at last d true) (piece_count (Some d) (map marked_item (filter (counts S) more)))
    (piece_count (Some d) (map marked_item more)) (length more)
    (length (filter (counts S) more)) (fewer S (Some d) false more)
  where
    of : (t : Bool) (k a m n : ℕ) → k + m ≤ a + n → cond t k (suc k) + suc m ≤ suc a + suc n
    of true k a m n h = omega (arith, h)
    of false k a m n h = omega (arith, h)
fewer S last false ((d, Skipped) ∷ more) =
    of (continues_at last d true) (piece_count (Some d) (map marked_item (filter (counts S) more)))
    (piece_count (Some d) (map marked_item more)) (length more)
    (length (filter (counts S) more)) (fewer S (Some d) false more)
  where
    of : (t : Bool) (k a m n : ℕ) → k + m ≤ a + n
        → cond t k (suc k) + suc m ≤ cond t a (suc a) + suc n
    of true k a m n h = omega (arith, h)
    of false k a m n h = omega (arith, h)
fewer S last fresh ((d, Held b) ∷ more) =
    of (counts S (d, Held b)) (fewer S None false more) (fewer S last true more)
  where
    kept : Items
    kept = filter (counts S) more

    of : (t : Bool) → piece_count None (map marked_item kept) + length more
        ≤ piece_count None (map marked_item more) + length kept
        → piece_count last (map marked_item kept) + length more
        ≤ piece_count None (map marked_item more) + length kept
        → piece_count last (map marked_item (cond t ((d, Held b) ∷ kept) kept)) + suc (length more)
        ≤ piece_count (cond fresh None last) (map marked_item ((d, Held b) ∷ more))
        + length (cond t ((d, Held b) ∷ kept) kept)
    of true h g =
        omega (
          arith,
          h,
          fact_counted last d b kept,
          fact_counted (cond fresh None last) d b more,
        )
    of false h g = omega (arith, g, fact_counted (cond fresh None last) d b more)

-- what isn't dropped of items with runs has runs, and is no more pieces
runs_kept : (S : Slots) (items : Items) → AreRuns items
    → (items_by true).Fits (filter (counts S) items)
runs_kept S items are =
    let kept = filter (counts S) items in
    let less = fewer S None false items in
    let short : length kept ≤ length items = no_longer (counts S) items in
    let a = counted items in
    let b = counted kept in
    let some : length (grouped items) < length items = ltb-true _ _ are.some in
    runs_fit kept (omega (arith, less, a, b, are.low)) (omega (arith, are.short))
    (true-ltb (length (grouped kept)) (length kept) (omega (arith, less, a, b, some)))
    (all_kept (counts S) items are.fits)

-- a number up to one that fits in 16 bits fits in them
small : (n m : ℕ) → n ≤ m → m < 2 ^ 16 → n < 2 ^ 16
small n m h k = omega (arith, h, k)

-- a number up to one within the limit of items is within it
few : (n m : ℕ) → n ≤ m → nat_le m max_items ≡ true → nat_le n max_items ≡ true
few n m h k = grind (arith, nat_tests)

-- what isn't dropped of the items of a bundle has a spelling
items_kept : (S : Slots) (b : BundleFields) → bundle.Fits b
    → (items_by b.runs).Fits (filter (counts S) b.items)
items_kept S b fits = by_runs b.runs (spelled_items b fits)
  where
    by_runs : (runs : Bool) → (items_by runs).Fits b.items
        → (items_by runs).Fits (filter (counts S) b.items)
    by_runs false f =
        let short = no_longer (counts S) b.items in (
          (
            small (length (filter (counts S) b.items)) (length b.items) short f.0.0,
            few (length (filter (counts S) b.items)) (length b.items) short f.0.1,
          ),
          all_kept (counts S) b.items f.1,
        )
    by_runs true f = runs_kept S b.items (runs_are b.items f)

-- what isn't dropped of a bundle has a spelling
pub news_fits : (S : Slots) (b : BundleFields) → bundle.Fits b → bundle.Fits (news_of S b)
news_fits S b fits =
    fits_with b.horizon b.runs (filter (counts S) b.items)
    (horizon_kept S b.runs b.items b.horizon (time_fits b fits)) (items_kept S b fits)
    (rise_kept (counts S) b.items (items_rise b fits))

-- ---- bytes

-- the bytes of what isn't dropped of a bundle without runs
pub record_bytes : (S : Slots) (b : BundleFields) → b.runs ≡ false → bundle_bytes (news_of S b)
    ≡ magic ++ (version_of b.runs (filter (counts S) b.items) ∷ horizon_bytes b.horizon
    ++ ((number w16).spell (length (filter (counts S) b.items))
    ++ flat_map item.spell (filter (counts S) b.items)))
record_bytes S b none = by_runs b.runs none
  where
    kept : Items
    kept = filter (counts S) b.items

    by_runs : (t : Bool) → t ≡ false
        → bundle_bytes (record { horizon = b.horizon; runs = t; items = kept })
        ≡ magic ++ (version_of t kept ∷ horizon_bytes b.horizon
        ++ ((number w16).spell (length kept) ++ flat_map item.spell kept))
    by_runs true h = absurd cc
    by_runs false h = plain_bytes b.horizon kept

-- the bytes of what isn't dropped of a bundle with runs
pub runs_record_bytes : (S : Slots) (b : BundleFields) → b.runs ≡ true
    → bundle_bytes (news_of S b)
    ≡ magic ++ (version_of b.runs (filter (counts S) b.items) ∷ horizon_bytes b.horizon
    ++ ((number w16).spell (length (grouped (filter (counts S) b.items)))
    ++ pieces_bytes (grouped (filter (counts S) b.items))))
runs_record_bytes S b some = by_runs b.runs some
  where
    kept : Items
    kept = filter (counts S) b.items

    by_runs : (t : Bool) → t ≡ true
        → bundle_bytes (record { horizon = b.horizon; runs = t; items = kept })
        ≡ magic ++ (version_of t kept ∷ horizon_bytes b.horizon
        ++ ((number w16).spell (length (grouped kept)) ++ pieces_bytes (grouped kept)))
    by_runs true h = runs_bytes b.horizon kept
    by_runs false h = absurd cc
