use Rattle.tk_vector.specs.VectorOrder.{AllAtMost}
use Rattle.tk_vector.proofs.vector.each_below.Given as goal

abbrev pub invariant-loop-entry : goal.invariant-loop-entry
invariant-loop-entry l = AllAtMost l.entries l.entry-index l.vector
