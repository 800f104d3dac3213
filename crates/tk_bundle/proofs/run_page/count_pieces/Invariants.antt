use Rattle.std.proofs.Common.{◌≡◌, ◌+◌, ◌≤◌, None, drop, map}
use Rattle.tk_bundle.specs.PieceCounts.{piece_count, marked_in}
use Rattle.tk_bundle.proofs.run_page.count_pieces.Given as goal

abbrev pub invariant-loop-dot : goal.invariant-loop-dot
invariant-loop-dot l = record {
  so_far : l.count + piece_count l.last (map (marked_in l.store.slots) (drop l.dot-index l.dots))
      ≡ piece_count None (map (marked_in l.store.slots) l.dots);
  low : l.count ≤ l.dot-index;
}
