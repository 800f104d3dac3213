use Rattle.std.proofs.Common.{◌≡◌, ◌+◌, None, drop, map}
use Rattle.tk_bundle.specs.PieceBytes.{max_pieces}
use Rattle.tk_bundle.specs.PieceCounts.{fitting, marked_in}
use Rattle.tk_bundle.proofs.run_page.fitting_of.Given as goal

abbrev pub invariant-loop-dot : goal.invariant-loop-dot
invariant-loop-dot l = record {
  so_far : l.count + fitting l.room l.last (map (marked_in l.store.slots) (drop l.dot-index l.dots))
      ≡ fitting max_pieces None (map (marked_in l.store.slots) l.dots);
  index : l.count ≡ l.dot-index;
}
