-- Pages with runs: the first slots of a store, above a cursor, that a vector does not cover, with
-- marks that follow one another as one piece (own).
--   run_items        the items of a page with runs
--   run_bundle_of    the bundle of items of a store, with runs if there are any
--   run_page_of      the page of a store for a vector and a cursor, with runs
--   pieces_behind    the pieces of marks that are not written yet and of the items behind them
--   IsRunsAt         a page in bytes has the pieces of what a store knows of given dots
--   IsRunPageAt      a page in bytes has what a store knows of given dots, perhaps with runs
use Rattle.std.specs.Prelude.{◌≡◌, ℕ, Bool, true, nat_lt, List, ◌∷◌, ◌++◌, length, Option, Some}
use Rattle.std.specs.Prelude.{None}
use Rattle.std.specs.Int.{w16}
use Rattle.std.specs.List.{flat_map}
use Rattle.tk_format.specs.Format.{number}
use Rattle.tk_handle.specs.declared.dot.Dot.{Dot}
use Rattle.tk_vector.specs.VersionVector.{Vector}
use Rattle.tk_store.specs.Beyond.{beyond}
use Rattle.tk_store.specs.Paging.{page, last_dot}
use Rattle.tk_store.specs.StoreFields.{StoreFields}
use Rattle.tk_bundle.specs.BundleFields.{BundleFields, Items}
use Rattle.tk_bundle.specs.Versions.{version_of}
use Rattle.tk_bundle.specs.Bundle.{magic, bundle_bytes, horizon_bytes}
use Rattle.tk_bundle.specs.Page.{PageFields, horizon_with, items_at, last_of}
use Rattle.tk_bundle.specs.Pieces.{grouped, pieces_from, has_run, first_pieces}
use Rattle.tk_bundle.specs.PieceBytes.{max_pieces, max_run_items, piece}
use Rattle.tk_bundle.specs.declared.page.Page.{Page}
use Rattle.tk_bundle.specs.declared.piece.Piece.{Piece}
use Rattle.tk_bundle.specs.declared.piece.Piece.TheVariants.{Marks}
use Rattle.tk_bundle.specs.declared.run.Run.{Run}

-- the items of the first 128 pieces of the first 1,024 slots above the cursor `after` that the
-- vector does not cover
abbrev pub run_items : StoreFields → Vector → Option Dot → Items
run_items P v after = first_pieces max_pieces (page max_run_items P.slots v after)

-- the bundle of items of a store with this horizon; marks that follow one another are runs
abbrev pub run_bundle_of : ℕ → Items → BundleFields
run_bundle_of horizon items =
    record { horizon = horizon_with horizon items; runs = has_run items; items = items }

-- the page with runs of a store for a vector and a cursor
abbrev pub run_page_of : StoreFields → Vector → Option Dot → PageFields
run_page_of P v after = record {
  bundle = run_bundle_of P.horizon (run_items P v after);
  last = last_dot (run_items P v after);
  more = nat_lt (length (run_items P v after)) (length (beyond P.slots v after));
}

-- the pieces of the marks that are not written yet, if there are any, and of the items behind them
abbrev pub pieces_behind : Option Run → Items → List Piece
pieces_behind None items = grouped items
pieces_behind (Some r) items = pieces_from (Marks r.first r.last) items

-- the bytes of pieces
abbrev pub pieces_bytes : List Piece → List ℕ
pieces_bytes ps = flat_map piece.spell ps

-- the page in bytes: the pieces of what a store knows of the dots, behind the magic, the version
-- with runs, the horizon, and the number of the pieces
pub record IsRunsAt (page : Page) (P : StoreFields) (dots : List Dot) (pieces : ℕ) (follows : Bool)
    : Type 0 where
  pub bytes : page.bytes.items ≡ magic
      ++ (version_of true (items_at P.slots dots) ∷ horizon_bytes (Some P.horizon)
      ++ ((number w16).spell pieces ++ pieces_bytes (grouped (items_at P.slots dots))))
  pub count : page.count ≡ length dots
  pub last : page.last ≡ last_of dots
  pub more : page.more ≡ follows

-- the page in bytes: the bundle of what a store knows of the dots
pub record IsRunPageAt (page : Page) (P : StoreFields) (dots : List Dot) (follows : Bool)
    : Type 0 where
  pub bytes : page.bytes.items ≡ bundle_bytes (run_bundle_of P.horizon (items_at P.slots dots))
  pub count : page.count ≡ length dots
  pub last : page.last ≡ last_of dots
  pub more : page.more ≡ follows
