use Rattle.std.proofs.Common.{◌≡◌, drop, None}
use Rattle.tk_bundle.specs.Pieces.{is_proper_behind}
use Rattle.tk_bundle.proofs.pieces.is_proper.Given as goal

abbrev pub invariant-loop-piece : goal.invariant-loop-piece
invariant-loop-piece l =
    is_proper_behind l.last (drop l.piece-index l.pieces) ≡ is_proper_behind None l.pieces
