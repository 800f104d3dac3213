use Rattle.std.proofs.Common.{◌≡◌, take}
use Rattle.tk_vector.specs.VectorText.{vector_of}
use Rattle.tk_vector.proofs.text.raised_by.Given as goal

abbrev pub invariant-loop-dot : goal.invariant-loop-dot
invariant-loop-dot l = l.vector ≡ vector_of (take l.dot-index l.dots)
