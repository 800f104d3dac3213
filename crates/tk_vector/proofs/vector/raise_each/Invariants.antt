use Rattle.tk_vector.specs.VectorOrder.{RaisedBy}
use Rattle.tk_vector.proofs.vector.raise_each.Given as goal

abbrev pub invariant-loop-entry : goal.invariant-loop-entry
invariant-loop-entry l = RaisedBy l.fn.vector l.entries l.vector l.entry-index
