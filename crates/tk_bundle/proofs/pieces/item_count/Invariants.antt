use Rattle.std.proofs.Common.{◌≡◌, ◌+◌, ◌≤◌, drop, length, min}
use Rattle.tk_bundle.specs.PieceBytes.{max_run_items}
use Rattle.tk_bundle.specs.Pieces.{expanded}
use Rattle.tk_bundle.proofs.pieces.item_count.Given as goal

abbrev pub invariant-loop-piece : goal.invariant-loop-piece
invariant-loop-piece l = record {
  total : min (l.count + length (expanded (drop l.piece-index l.pieces))) (max_run_items + 1)
      ≡ min (length (expanded l.pieces)) (max_run_items + 1);
  low : l.count ≤ max_run_items + 1;
}
