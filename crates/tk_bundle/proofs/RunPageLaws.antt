-- A page with runs has the items of the first pieces of what a vector does not cover. Key results:
--   run_dots         the dots of a page with runs
--   page_of_dots     the page that is made at these dots is the page of the store
--   run_page_fits    a page with runs has a spelling
use Rattle.std.proofs.Common.{◌≡◌, ◌≢◌, ℕ, ◌+◌, ◌≤◌, ◌-◌, Bool, true, false}
use Rattle.std.proofs.Common.{nat_lt, List, [], ◌∷◌, ◌++◌, length, map, min, take, Option, Some}
use Rattle.std.proofs.Common.{None, slice_get, refl, sym, ap, subst, ◌∙◌, arith}
use Rattle.std.specs.List.{AllByRecursion, cons_option}
use Rattle.std.specs.Option.{option_map}
use Rattle.std.specs.FinMap as sets
use Rattle.std.specs.Int.{w16}
use Rattle.tk_format.specs.Format.{number}
use Rattle.std.proofs.lemmas.Bool.{ltb-false}
use Rattle.std.proofs.lemmas.Bool.Decides.{nat_tests}
use Rattle.std.proofs.lemmas.List.{length-map, length-take, take-take, take-map}
use Rattle.std.proofs.lemmas.List.Elements.{filter_map-append}
use Rattle.tk_handle.specs.declared.dot.Dot.{Dot}
use Rattle.tk_handle.specs.DotBytes.{dot_field}
use Rattle.tk_handle.specs.Moment.{moment}
use Rattle.tk_vector.specs.VersionVector.{Vector}
use Rattle.tk_store.specs.FactSet.{AllIn, dot_of}
use Rattle.tk_store.specs.Beyond.{beyond}
use Rattle.tk_store.specs.Paging.{page}
use Rattle.tk_store.specs.Slots.{Slot, Slots, Skipped, is_skipped_slot}
use Rattle.tk_store.specs.StoreFields.{StoreFields}
use Rattle.tk_store.proofs.EntryLaws.{AllIn-beyond}
use Rattle.tk_bundle.specs.declared.page.Page.{Page}
use Rattle.tk_bundle.specs.BundleFields.{Items}
use Rattle.tk_bundle.specs.Items.{item}
use Rattle.tk_bundle.specs.ItemLaws.{mark_fits}
use Rattle.tk_bundle.specs.Bundle.{ascends, magic, horizon_bytes, bundle, bundle_bytes}
use Rattle.tk_bundle.specs.Versions.{version_of}
use Rattle.tk_bundle.specs.Page.{item_at, items_at, last_of, horizon_if, horizon_with, IsPageAt}
use Rattle.tk_bundle.specs.Page.{IsPageOf}
use Rattle.tk_bundle.specs.Pieces.{grouped, has_run}
use Rattle.tk_bundle.specs.PieceBytes.{max_pieces, max_run_items}
use Rattle.tk_bundle.specs.PieceCounts.{marked_item, marked_in, piece_count, fitting}
use Rattle.tk_bundle.specs.RunPage.{pieces_bytes, run_items, run_bundle_of, run_page_of}
use Rattle.tk_bundle.specs.RunPage.{IsRunsAt, IsRunPageAt}
use Rattle.tk_bundle.proofs.FitLaws.{plain_bytes, runs_bytes, fits_with, plain_fits, runs_fit}
use Rattle.tk_bundle.proofs.FitLaws.{run_marked}
use Rattle.tk_bundle.proofs.PageLaws.{items_at-dots, all_take, dots_are, horizon_fits, page_rises}
use Rattle.tk_bundle.proofs.PieceCountLaws.{counted, few_pieces, fitting_is, first_are, first_few}

-- ---- the dots of a page

-- what slots know of their items' dots is whether the items are marks
pub marked_known : (S : Slots) (items : Items) → AllIn S items
    → map (marked_in S) (map dot_of items) ≡ map marked_item items
marked_known S [] all = refl
marked_known S (i ∷ more) all =
    ap (λ (o : Option Slot). (i.0, is_skipped_slot o) ∷ map (marked_in S) (map dot_of more)) all.0
    ∙ ap (λ l. marked_item i ∷ l) (marked_known S more all.1)

-- the items at dots are among the slots
items_in : (S : Slots) (dots : List Dot) → AllIn S (items_at S dots)
items_in S [] = tt
items_in S (d ∷ dots) = by_slot (sets.get S d) refl (items_in S dots)
  where
    by_slot : (o : Option Slot) → sets.get S d ≡ o → AllIn S (items_at S dots)
        → AllIn S (cons_option (option_map (λ slot. (d, slot)) o) (items_at S dots))
    by_slot None is more = more
    by_slot (Some s) is more = (is, more)

-- the number of pieces of what slots know of known dots
pub counted_at : (S : Slots) (dots : List Dot) → map dot_of (items_at S dots) ≡ dots
    → piece_count None (map (marked_in S) dots) ≡ length (grouped (items_at S dots))
counted_at S dots known =
    ap (λ ds. piece_count None (map (marked_in S) ds)) (sym known)
    ∙ ap (piece_count None) (marked_known S (items_at S dots) (items_in S dots))
    ∙ sym (counted (items_at S dots))

-- the slots that a page with runs is made of
abbrev pub found : StoreFields → Vector → Option Dot → Items
found P v after = page max_run_items P.slots v after

-- a page with runs has at most 1,024 items
pub run_short : (P : StoreFields) (v : Vector) (after : Option Dot)
    → length (run_items P v after) ≤ max_run_items
run_short P v after =
    let X = page max_run_items P.slots v after in
    let R = run_items P v after in
    omega (
      arith,
      ap (λ (l : Items). length l) (first_are max_pieces X),
      length-take (length R) X,
      length-take max_run_items (beyond P.slots v after),
    )

-- a page with runs has as many items as the first dots of at most 128 pieces
pub run_count : (P : StoreFields) (v : Vector) (after : Option Dot)
    → fitting max_pieces None (map (marked_in P.slots) (take max_run_items
    (take (max_run_items + 1) (map dot_of (beyond P.slots v after)))))
    ≡ length (run_items P v after)
run_count P v after =
    let X = page max_run_items P.slots v after in
    let all = all_take P.slots max_run_items (beyond P.slots v after)
    (AllIn-beyond P.slots v after) in
    ap (λ ds. fitting max_pieces None (map (marked_in P.slots) ds))
    (dots_are P.slots v after max_run_items)
    ∙ ap (fitting max_pieces None) (marked_known P.slots X all)
    ∙ fitting_is max_pieces X

-- the dots of a page with runs are those of its items
pub run_dots : (P : StoreFields) (v : Vector) (after : Option Dot) (count : ℕ)
    → count ≡ fitting max_pieces None (map (marked_in P.slots) (take max_run_items
    (take (max_run_items + 1) (map dot_of (beyond P.slots v after)))))
    → take count (take (max_run_items + 1) (map dot_of (beyond P.slots v after)))
    ≡ map dot_of (run_items P v after)
run_dots P v after count is =
    let B = beyond P.slots v after in
    let X = page max_run_items P.slots v after in
    let R = run_items P v after in
    let short : length R ≤ max_run_items = run_short P v after in
    ap (λ k. take k (take (max_run_items + 1) (map dot_of B))) (is ∙ run_count P v after)
    ∙ take-take (length R) (max_run_items + 1) (map dot_of B) (omega arith)
    ∙ take-map dot_of (length R) B
    ∙ ap (map dot_of) (sym (take-take (length R) max_run_items B short)
    ∙ sym (first_are max_pieces X))

-- the items of a page with runs are the first slots that a vector does not cover
pub run_first : (P : StoreFields) (v : Vector) (after : Option Dot) → run_items P v after
    ≡ take (length (run_items P v after)) (beyond P.slots v after)
run_first P v after =
    let B = beyond P.slots v after in
    let X = page max_run_items P.slots v after in
    let R = run_items P v after in
    first_are max_pieces X ∙ take-take (length R) max_run_items B (run_short P v after)

-- what slots know of the dots of a page with runs
pub run_at : (P : StoreFields) (v : Vector) (after : Option Dot) (dots : List Dot)
    → dots ≡ map dot_of (run_items P v after) → items_at P.slots dots ≡ run_items P v after
run_at P v after dots same =
    ap (items_at P.slots) same
    ∙ items_at-dots P.slots (run_items P v after)
    (subst (AllIn P.slots) (sym (run_first P v after))
    (all_take P.slots (length (run_items P v after)) (beyond P.slots v after)
    (AllIn-beyond P.slots v after)))

-- one dot more than there is room for shows whether more follow
pub run_more : (items : Items) (n : ℕ) → n ≤ max_run_items
    → nat_lt n (length (take (max_run_items + 1) (map dot_of items))) ≡ nat_lt n (length items)
run_more items n low = ap (nat_lt n)
    (length-take (max_run_items + 1) (map dot_of items)
    ∙ ap (min (max_run_items + 1)) (length-map items dot_of))
    ∙ same n max_run_items (length items) low
  where
    same : (n m k : ℕ) → n ≤ m → nat_lt n (min (m + 1) k) ≡ nat_lt n k
    same n m k low = grind (arith, nat_tests)

-- the page that is made at these dots is the page of the store
pub page_of_dots : (made : Page) (P : StoreFields) (v : Vector) (after : Option Dot)
    (dots : List Dot) (more : Bool) → dots ≡ map dot_of (run_items P v after)
    → more ≡ nat_lt (length (run_items P v after)) (length (beyond P.slots v after))
    → IsRunPageAt made P dots more → IsPageOf made (run_page_of P v after)
page_of_dots made P v after dots more same follows at =
    let R = run_items P v after in
    let count : length dots ≡ length R = ap length same ∙ length-map R dot_of in
    record {
      bytes = at.bytes ∙ ap (λ items. bundle_bytes (run_bundle_of P.horizon items))
          (run_at P v after dots same);
      count = at.count ∙ count;
      last = at.last ∙ ap last_of same
          ∙ ap (λ n. slice_get (map dot_of R) (n - 1)) (length-map R dot_of);
      more = at.more ∙ follows;
    }

-- ---- bytes

-- equal numbers aren't one below the other, by the test
no_more : (m n : ℕ) → m ≡ n → nat_lt m n ≡ false
no_more m n h = grind (arith, nat_tests)

-- a number up to another that it doesn't equal is below it, by the test
fewer : (m n : ℕ) → m ≤ n → m ≢ n → nat_lt m n ≡ true
fewer m n h k = grind (arith, nat_tests)

-- the bundle of items, with runs or not
bundle_if : (horizon : ℕ) (items : Items) (runs : Bool) → has_run items ≡ runs
    → run_bundle_of horizon items
    ≡ record { horizon = horizon_with horizon items; runs = runs; items = items }
bundle_if horizon items runs is =
    ap (λ (t : Bool). record { horizon = horizon_with horizon items; runs = t; items = items }) is

-- a page whose items are pieces of their own is one without runs
pub lone_page : (made : Page) (P : StoreFields) (dots : List Dot) (more : Bool)
    → map dot_of (items_at P.slots dots) ≡ dots
    → length (grouped (items_at P.slots dots)) ≡ length dots → IsPageAt made P dots more
    → IsRunPageAt made P dots more
lone_page made P dots more known alone at =
    let items = items_at P.slots dots in
    let size : length items ≡ length dots = sym (length-map items dot_of) ∙ ap length known in
    record {
      bytes = at.bytes ∙ rw (← size) (sym (plain_bytes (horizon_with P.horizon items) items))
          ∙ ap bundle_bytes (sym (bundle_if P.horizon items false
          (no_more (length (grouped items)) (length items) (alone ∙ sym size))));
      count = at.count;
      last = at.last;
      more = at.more;
    }

-- a page with fewer pieces than items is one with runs
pub runs_page : (made : Page) (P : StoreFields) (dots : List Dot) (pieces : ℕ) (more : Bool)
    → map dot_of (items_at P.slots dots) ≡ dots
    → pieces ≡ length (grouped (items_at P.slots dots)) → pieces ≢ length dots
    → IsRunsAt made P dots pieces more → IsRunPageAt made P dots more
runs_page made P dots pieces more known is other at =
    let items = items_at P.slots dots in
    let size : length items ≡ length dots = sym (length-map items dot_of) ∙ ap length known in
    let some : has_run items ≡ true =
    fewer (length (grouped items)) (length items) (few_pieces items)
    (λ same. other (is ∙ same ∙ size)) in
    let time : horizon_with P.horizon items ≡ Some P.horizon =
    ap (λ t. horizon_if t P.horizon) (run_marked items some) in
    record {
      bytes = at.bytes
          ∙ ap (λ n. magic ++ (version_of true items ∷ horizon_bytes (Some P.horizon)
          ++ ((number w16).spell n ++ pieces_bytes (grouped items)))) is
          ∙ sym (runs_bytes (Some P.horizon) items)
          ∙ ap (λ h. bundle_bytes (record { horizon = h; runs = true; items = items })) (sym time)
          ∙ ap bundle_bytes (sym (bundle_if P.horizon items true some));
      count = at.count;
      last = at.last;
      more = at.more;
    }

-- a page with runs has a spelling
pub run_page_fits : (P : StoreFields) (v : Vector) (after : Option Dot) → moment.Fits P.horizon
    → AllByRecursion item.Fits (run_items P v after)
    → bundle.Fits (run_page_of P v after).bundle
run_page_fits P v after time fits = by_run (has_run R) refl
  where
    R : Items
    R = run_items P v after

    rise : ascends None R ≡ true
    rise = subst (λ (l : Items). ascends None l ≡ true) (sym (run_first P v after))
        (page_rises P v after (length R))

    by_run : (t : Bool) → has_run R ≡ t → bundle.Fits
        (record { horizon = horizon_with P.horizon R; runs = t; items = R })
    by_run true is = fits_with (horizon_with P.horizon R) true R
        (horizon_fits P.horizon true R time (sym (run_marked R is)))
        (runs_fit R (first_few max_pieces (found P v after)) (run_short P v after) is fits) rise
    by_run false is = fits_with (horizon_with P.horizon R) false R
        (horizon_fits P.horizon false R time refl)
        (plain_fits R (omega (
          arith,
          ltb-false (length (grouped R)) (length R) is,
          first_few max_pieces (found P v after),
        )) fits) rise

-- ---- single dots

-- the mark of a dot that is skipped has a spelling
pub skipped_fits : (S : Slots) (d : Dot) → sets.get S d ≡ Some Skipped → dot_field.Fits d
    → AllByRecursion item.Fits (items_at S (d ∷ []))
skipped_fits S d is fits = rw is (mark_fits d fits, tt)

-- what slots know of one dot, and of more behind it
pub items_at-next : (S : Slots) (d : Dot) (more : List Dot)
    → items_at S (d ∷ more) ≡ items_at S (d ∷ []) ++ items_at S more
items_at-next S d more = filter_map-append (item_at S) (d ∷ []) more
