use Rattle.std.proofs.Common.{◌≡◌, ◌++◌}
use Rattle.tk_bundle.specs.Pieces.{marks_from}
use Rattle.tk_bundle.proofs.pieces.push_marks.Given as goal

abbrev pub invariant-loop-offset : goal.invariant-loop-offset
invariant-loop-offset l = l.items.items ≡ l.fn.items.items ++ marks_from l.first l.offset
