use Rattle.std.proofs.Common.{◌≡◌, ◌++◌, drop, take}
use Rattle.std.specs.List.{AllByRecursion}
use Rattle.tk_bundle.specs.Items.{item}
use Rattle.tk_bundle.specs.Page.{items_at}
use Rattle.tk_bundle.specs.Pieces.{grouped}
use Rattle.tk_bundle.specs.RunPage.{pieces_behind, pieces_bytes}
use Rattle.tk_bundle.proofs.run_page.write_pieces.Given as goal

abbrev pub invariant-loop-dot : goal.invariant-loop-dot
invariant-loop-dot l = record {
  written : l.writer ++ pieces_bytes
      (pieces_behind l.pending (items_at l.store.slots (drop l.dot-index l.dots)))
      ≡ l.fn.writer ++ pieces_bytes (grouped (items_at l.store.slots l.dots));
  fits : AllByRecursion item.Fits (items_at l.store.slots (take l.dot-index l.dots));
}
