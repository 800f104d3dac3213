use Rattle.std.proofs.Common.{◌≡◌}
use Rattle.tk_bundle.specs.Pieces.{expanded}
use Rattle.tk_bundle.proofs.pieces.expand.Given as goal

abbrev pub invariant-loop-piece : goal.invariant-loop-piece
invariant-loop-piece l = l.items.items ≡ expanded l.yielded
