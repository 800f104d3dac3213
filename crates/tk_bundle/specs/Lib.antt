-- The definitions of this crate, by file, in reading order:
--   BundleFields  BundleFields, what contracts see of a bundle: a horizon and items
--   Versions      versions, the table of the versions of a bundle; version_of, the version of items
--   Items         item, how an item is spelled
--   Pieces        grouped, items as pieces, of which a run of marks is one
--   PieceBytes    piece, how a piece is spelled; pieced_items
--   Bundle        bundle, how a bundle is spelled; bundle_bytes
--   PieceCounts   piece_count, fitting: pieces by their dots and marks
--   Page          page_of, the first slots above a cursor that a vector does not cover
--   RunPage       run_page_of, a page with runs
--   Paging        PagesComplete, what a receiver of all pages knows
--   News          changes, what a bundle changes of a store; record_of, its record in a log
--   Front         walk, over the lengths of the first bundle of many bytes; IsCut
--   ItemLaws      item_exact, an item has one spelling
--   PieceLaws     grouped and expanded undo each other
--   PiecedLaws    pieced_exact, items have one spelling by pieces
--   BundleLaws    bundle_exact, a bundle has one spelling
--   FrontLaws     walk_bundle, a bundle at the front is walked over
--   TornLaws      walk_torn, the beginning of a bundle is cut
--   VersionLaws   version_known, items have a version; version_tells
pub mod Bundle
pub mod BundleFields
pub mod BundleLaws
pub mod Front
pub mod FrontLaws
pub mod ItemLaws
pub mod Items
pub mod News
pub mod Page
pub mod Paging
pub mod PieceBytes
pub mod PieceCounts
pub mod PieceLaws
pub mod PiecedLaws
pub mod Pieces
pub mod RunPage
pub mod TornLaws
pub mod VersionLaws
pub mod Versions
pub use Rattle.tk_store.specs.FactSet
pub use Rattle.tk_store.specs.StoreFields
