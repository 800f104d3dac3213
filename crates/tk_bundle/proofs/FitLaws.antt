-- Which bundles have a spelling, without runs and with them, and what it is. Key results:
--   plain_bytes, runs_bytes   the bytes of a bundle without runs, and with them
--   fits_with                 a bundle whose items and horizon fit has a spelling
--   plain_fits, runs_fit      items that have a spelling without runs, and with them
--   items_fit                 the items of a bundle each have a spelling
--   items_few                 a bundle has at most 1,024 items
--   marks_told                a bundle with runs has a mark
use Rattle.std.proofs.Common.{◌≡◌, ℕ, zero, suc, ◌+◌, ◌-◌, ◌<◌, ◌≤◌, ◌^◌, Bool, true, false, ◌&&◌}
use Rattle.std.proofs.Common.{◌||◌, cond, eqb, nat_le, nat_lt, List, [], ◌∷◌, ◌++◌, length, Option}
use Rattle.std.proofs.Common.{Some, None, refl, sym, ap, subst, ◌∙◌, arith}
use Rattle.std.specs.Int.{w16}
use Rattle.std.specs.List.{AllByRecursion, flat_map, list_any}
use Rattle.std.proofs.lemmas.Bool.Decides.{nat_tests}
use Rattle.std.proofs.lemmas.Bool.{and_parts as both_true, and_from, le-leb}
use Rattle.std.proofs.lemmas.Option.{cond_some}
use borrow.Author.Tests.{leb-true}
use Rattle.tk_format.specs.Format.{number}
use Rattle.tk_handle.specs.declared.dot.Dot.{Dot}
use Rattle.tk_handle.specs.DotBytes.{dot_field, serial_field}
use Rattle.tk_handle.specs.Ranges.{max_serial}
use Rattle.tk_store.specs.Slots.{Slot, Held, Skipped}
use Rattle.tk_fact.specs.FactBytes.{max_bytes}
use Rattle.tk_bundle.specs.BundleFields.{BundleFields, Items, is_mark}
use Rattle.tk_bundle.specs.Items.{item}
use Rattle.tk_bundle.specs.ItemLaws.{dot_length, mark_fits}
use Rattle.tk_bundle.specs.Versions.{version_of}
use Rattle.tk_bundle.specs.VersionLaws.{runs_told}
use Rattle.tk_bundle.specs.Bundle.{ascends, magic, max_items, items_by, bundle, bundle_bytes}
use Rattle.tk_bundle.specs.Bundle.{horizon_bytes, HorizonFits}
use Rattle.tk_bundle.specs.declared.piece.Piece.{Piece}
use Rattle.tk_bundle.specs.declared.piece.Piece.TheVariants.{Fact, Marks}
use Rattle.tk_bundle.specs.Pieces.{continues, last_mark, extended, begun, pieces_from, grouped}
use Rattle.tk_bundle.specs.Pieces.{marks_from, piece_items, expanded, is_proper, has_run}
use Rattle.tk_bundle.specs.PieceLaws.{behind, goes_on, grouped_items, grouped_proper}
use Rattle.tk_bundle.specs.PieceBytes.{max_pieces, max_run_items, run, MarksFit}
use Rattle.tk_bundle.specs.PieceBytes.{piece, are_runs}
use Rattle.tk_bundle.specs.PiecedLaws.{run_length}

-- ---- bytes

-- a bundle with these parts
abbrev of : Option ℕ → Bool → Items → BundleFields
of horizon runs items = record { horizon = horizon; runs = runs; items = items }

-- the bytes of a bundle without runs
pub plain_bytes : (horizon : Option ℕ) (items : Items) → bundle_bytes (of horizon false items)
    ≡ magic ++ (version_of false items ∷ horizon_bytes horizon
    ++ ((number w16).spell (length items) ++ flat_map item.spell items))
plain_bytes horizon items =
    ap (λ (t : Bool). magic ++ (version_of false items ∷ horizon_bytes horizon
    ++ (items_by t).spell items)) (runs_told false items)

-- the bytes of a bundle with runs
pub runs_bytes : (horizon : Option ℕ) (items : Items) → bundle_bytes (of horizon true items)
    ≡ magic ++ (version_of true items ∷ horizon_bytes horizon
    ++ ((number w16).spell (length (grouped items)) ++ flat_map piece.spell (grouped items)))
runs_bytes horizon items =
    ap (λ (t : Bool). magic ++ (version_of true items ∷ horizon_bytes horizon
    ++ (items_by t).spell items)) (runs_told true items)

-- ---- which bundles have a spelling

-- a bundle whose horizon and items fit has a spelling
pub fits_with : (horizon : Option ℕ) (runs : Bool) (items : Items)
    → HorizonFits (version_of runs items) horizon → (items_by runs).Fits items
    → ascends None items ≡ true → bundle.Fits (of horizon runs items)
fits_with horizon runs items time fits rise = (
  (
    sym (runs_told runs items),
    (time, subst (λ (t : Bool). (items_by t).Fits items) (sym (runs_told runs items)) fits),
  ),
  rise,
)

-- the horizon of a bundle fits its version
pub time_fits : (b : BundleFields) → bundle.Fits b
    → HorizonFits (version_of b.runs b.items) b.horizon
time_fits b fits = fits.0.1.0

-- the items of a bundle have a spelling, without runs or with them
pub spelled_items : (b : BundleFields) → bundle.Fits b → (items_by b.runs).Fits b.items
spelled_items b fits =
    subst (λ (t : Bool). (items_by t).Fits b.items) (runs_told b.runs b.items) fits.0.1.1

-- the items of a bundle rise
pub items_rise : (b : BundleFields) → bundle.Fits b → ascends None b.items ≡ true
items_rise b fits = fits.1

-- the greatest number of items fits in two bytes
small : (n : ℕ) → n ≤ max_items → n < 256 ^ 2
small n h = omega arith

-- a number up to a limit passes the test for it
few : (n limit : ℕ) → n ≤ limit → nat_le n limit ≡ true
few n limit h = grind (arith, nat_tests)

-- items that are few enough have a spelling without runs
pub plain_fits : (items : Items) → length items ≤ max_items → AllByRecursion item.Fits items
    → (items_by false).Fits items
plain_fits items low fits = ((small (length items) low, few (length items) max_items low), fits)

-- ---- pieces that fit

-- a number above 0, up to one that is in a range, is in that range
later : (m n g : ℕ) → (nat_lt 0 n && nat_le n g) ≡ true → 0 < m → m ≤ n
    → (nat_lt 0 m && nat_le m g) ≡ true
later m n g h some le = grind (arith, nat_tests)

-- a serial that isn't above another is in its range
serial_below : (m n : ℕ) → serial_field.Fits n → 0 < m → m ≤ n → serial_field.Fits m
serial_below m n fits some le =
    (omega (arith, fits.0, le), later m n max_serial fits.1 some le)

-- marks up to a serial in its range have a spelling
marks_fit : (d : Dot) (n last : ℕ) → dot_field.Fits d → serial_field.Fits last
    → d.serial + n ≤ suc last → AllByRecursion item.Fits (marks_from d n)
unfolding marks_from
marks_fit d zero last fits end low = tt
marks_fit d (suc zero) last fits end low = (mark_fits d fits, tt)
marks_fit d (suc (suc n)) last fits end low = (
  mark_fits d fits,
  marks_fit (behind d 1) (suc n) last
      (fits.0, serial_below (d.serial + 1) last end (omega arith) (omega arith)) end (omega arith),
)

-- the marks from a dot to a serial that isn't before it end at that serial
stretched : (d : Dot) (last : ℕ) → nat_le d.serial last ≡ true
    → d.serial + suc (last - d.serial) ≤ suc last
stretched d last h = let low : d.serial ≤ last = leb-true d.serial last h in omega arith

-- the items of a piece that has a spelling each have one
piece_fits : (p : Piece) → piece.Fits p → AllByRecursion item.Fits (piece_items p)
piece_fits (Fact f) fits = (fits, tt)
piece_fits (Marks d last) fits =
    marks_fit d (suc (last - d.serial)) last fits.0.0 fits.0.1 (stretched d last fits.0.2)

-- if the items of two lists have a spelling, those of both lists together do
pub all_append : (fs gs : Items) → AllByRecursion item.Fits fs → AllByRecursion item.Fits gs
    → AllByRecursion item.Fits (fs ++ gs)
all_append [] gs a b = b
all_append (f ∷ fs) gs a b = (a.0, all_append fs gs a.1 b)

-- the items of pieces that have a spelling have one
expanded_fit : (ps : List Piece) → AllByRecursion piece.Fits ps
    → AllByRecursion item.Fits (expanded ps)
expanded_fit [] fits = tt
expanded_fit (p ∷ ps) fits =
    all_append (piece_items p) (expanded ps) (piece_fits p fits.0) (expanded_fit ps fits.1)

-- marks in range are a piece that has a spelling
marks_piece : (d : Dot) (last : ℕ) → MarksFit d last → piece.Fits (Marks d last)
marks_piece d last fits = (fits, by_last (eqb d.serial last))
  where
    by_last : (t : Bool) → (length (cond t (dot_field.spell d) (run.spell (d, last))) < 2 ^ 16)
        × (nat_le (length (cond t (dot_field.spell d) (run.spell (d, last)))) max_bytes ≡ true)
    by_last true = (omega (arith, dot_length d), ap (λ n. nat_le n max_bytes) (dot_length d))
    by_last false =
        (omega (arith, run_length (d, last)), ap (λ n. nat_le n max_bytes) (run_length (d, last)))

-- a number up to another is up to the next one
next_le : (m n k : ℕ) → nat_le m n ≡ true → n + 1 ≡ k → nat_le m k ≡ true
next_le m n k h s = grind (arith, nat_tests)

-- the piece of one item that has a spelling has one
begun_fits : (i : Dot × Slot) → item.Fits i → piece.Fits (begun i)
begun_fits (d, Held b) fits = fits
begun_fits (d, Skipped) fits =
    marks_piece d d.serial (fits.0, fits.0.1, le-leb d.serial d.serial (omega arith))

-- a piece that has a spelling has one with a mark behind it that continues it
extended_fits : (p : Piece) (i : Dot × Slot) → continues (last_mark p) i ≡ true → piece.Fits p
    → item.Fits i → piece.Fits (extended p i.0)
extended_fits (Fact f) i on p fits = absurd cc
extended_fits (Marks d last) (e, Held b) on p fits = absurd cc
extended_fits (Marks d last) (e, Skipped) on p fits =
    marks_piece d e.serial
    (p.0.0, fits.0.1, next_le d.serial last e.serial p.0.2 (goes_on d last e on).serial)

-- a piece and items grouped behind it have a spelling if the piece and the items do
from_fits : (p : Piece) (items : Items) → piece.Fits p → AllByRecursion item.Fits items
    → AllByRecursion piece.Fits (pieces_from p items)
from_fits p [] fits all = (fits, tt)
from_fits p (i ∷ more) fits all =
    by_test (λ q one. from_fits q more one all.1) (continues (last_mark p) i) refl
  where
    by_test : ((q : Piece) → piece.Fits q → AllByRecursion piece.Fits (pieces_from q more))
        → (t : Bool) → continues (last_mark p) i ≡ t → AllByRecursion piece.Fits
        (cond t (pieces_from (extended p i.0) more) (p ∷ pieces_from (begun i) more))
    by_test next true on = next (extended p i.0) (extended_fits p i on fits all.0)
    by_test next false off = (fits, next (begun i) (begun_fits i all.0))

-- the pieces of items that have a spelling have one
grouped_fit : (items : Items) → AllByRecursion item.Fits items
    → AllByRecursion piece.Fits (grouped items)
grouped_fit [] all = tt
grouped_fit (i ∷ more) all = from_fits (begun i) more (begun_fits i all.0) all.1

-- items of few enough pieces, one of them a run, have a spelling with runs
pub runs_fit : (items : Items) → length (grouped items) ≤ max_pieces
    → length items ≤ max_run_items → has_run items ≡ true → AllByRecursion item.Fits items
    → (items_by true).Fits items
runs_fit items low short some fits =
    let whole = grouped_items items in
    let are : are_runs (grouped items) ≡ true =
    and_from (is_proper (grouped items)) _ (grouped_proper items)
    (and_from (nat_le (length (expanded (grouped items))) max_run_items) _
    (ap (λ (l : Items). nat_le (length l) max_run_items) whole
    ∙ few (length items) max_run_items short)
    (ap (λ (l : Items). nat_lt (length (grouped items)) (length l)) whole ∙ some)) in (
      (
        (small (length (grouped items)) low, few (length (grouped items)) max_pieces low),
        grouped_fit items fits,
      ),
      rw are (ap (λ (l : Items). Some l) whole),
    )

-- ---- what a spelling shows of items

-- what items that have a spelling with runs are
pub record AreRuns (items : Items) : Type 0 where
  pub short : length items ≤ max_run_items
  pub low : length (grouped items) ≤ max_pieces
  pub some : has_run items ≡ true
  pub fits : AllByRecursion item.Fits items

-- items that are spelled with runs have a run
pub runs_are : (items : Items) → (items_by true).Fits items → AreRuns items
runs_are items fits =
    let g = cond_some (are_runs (grouped items)) (expanded (grouped items)) items fits.1 in
    let a = both_true (is_proper (grouped items)) _ g.0 in
    let b = both_true (nat_le (length (expanded (grouped items))) max_run_items) _ a.1 in
    record {
      short = leb-true (length items) max_run_items
          (ap (λ (l : Items). nat_le (length l) max_run_items) (sym g.1) ∙ b.0);
      low = leb-true (length (grouped items)) max_pieces fits.0.0.1;
      some = ap (λ (l : Items). nat_lt (length (grouped items)) (length l)) (sym g.1) ∙ b.1;
      fits = subst (AllByRecursion item.Fits) g.1 (expanded_fit (grouped items) fits.0.1);
    }

-- each item of a bundle has a spelling
pub items_fit : (b : BundleFields) → bundle.Fits b → AllByRecursion item.Fits b.items
items_fit b fits = by_runs b.runs (spelled_items b fits)
  where
    by_runs : (runs : Bool) → (items_by runs).Fits b.items → AllByRecursion item.Fits b.items
    by_runs false f = f.1
    by_runs true f = (runs_are b.items f).fits

-- a bundle has at most 1,024 items
pub items_few : (b : BundleFields) → bundle.Fits b → length b.items ≤ max_run_items
items_few b fits = by_runs b.runs (spelled_items b fits)
  where
    by_runs : (runs : Bool) → (items_by runs).Fits b.items → length b.items ≤ max_run_items
    by_runs false f =
        let low : length b.items ≤ max_items = leb-true (length b.items) max_items f.0.1 in
        omega arith
    by_runs true f = (runs_are b.items f).short

-- ---- a run has marks

-- items without a mark, grouped behind a piece, are one piece each
unmarked_from : (p : Piece) (items : Items) → list_any is_mark items ≡ false
    → length (pieces_from p items) ≡ suc (length items)
unmarked_from p [] none = refl
unmarked_from p ((d, Skipped) ∷ more) none = absurd cc
unmarked_from (Fact f) ((d, Held b) ∷ more) none = ap suc (unmarked_from (Fact (d, b)) more none)
unmarked_from (Marks e last) ((d, Held b) ∷ more) none =
    ap suc (unmarked_from (Fact (d, b)) more none)

-- items without a mark are grouped as one piece each
unmarked : (items : Items) → list_any is_mark items ≡ false
    → length (grouped items) ≡ length items
unmarked [] none = refl
unmarked ((d, Skipped) ∷ more) none = absurd cc
unmarked ((d, Held b) ∷ more) none = unmarked_from (Fact (d, b)) more none

-- equal numbers aren't one below the other
not_less : (m n : ℕ) → nat_lt m n ≡ true → m ≡ n → ⊥
not_less m n h k = grind (arith, nat_tests)

-- items with a run have a mark
pub run_marked : (items : Items) → has_run items ≡ true → list_any is_mark items ≡ true
run_marked items some = by_mark (list_any is_mark items) refl
  where
    by_mark : (t : Bool) → list_any is_mark items ≡ t → t ≡ true
    by_mark true is = refl
    by_mark false is = absurd (not_less (length (grouped items)) (length items) some
        (unmarked items is))

-- a bundle with runs has a mark
pub marks_told : (b : BundleFields) → bundle.Fits b
    → (b.runs || list_any is_mark b.items) ≡ list_any is_mark b.items
marks_told b fits = by_runs b.runs (spelled_items b fits)
  where
    by_runs : (runs : Bool) → (items_by runs).Fits b.items
        → (runs || list_any is_mark b.items) ≡ list_any is_mark b.items
    by_runs false f = refl
    by_runs true f = sym (run_marked b.items (runs_are b.items f).some)
