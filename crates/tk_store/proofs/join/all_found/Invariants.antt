use Rattle.std.proofs.Common.{length}
use Rattle.tk_store.specs.SlotJoining.{Sought}
use Rattle.tk_store.specs.Walk.{above}
use Rattle.tk_store.proofs.join.all_found.Given as goal

abbrev pub invariant-slots : goal.invariant-slots
invariant-slots l = Sought l.table l.other (above l.other l.place)

abbrev pub decreases-slots : goal.decreases-slots
decreases-slots l = length (above l.other l.place)
