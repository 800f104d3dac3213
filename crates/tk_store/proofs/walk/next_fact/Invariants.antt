use Rattle.std.proofs.Common.{◌≡◌, length}
use Rattle.tk_store.specs.Slots.{held_in}
use Rattle.tk_store.specs.Walk.{above}
use Rattle.tk_store.proofs.walk.next_fact.Given as goal

abbrev pub invariant-marks : goal.invariant-marks
invariant-marks l = above (held_in l.table) l.place ≡ above (held_in l.table) l.fn.after

abbrev pub decreases-marks : goal.decreases-marks
decreases-marks l = length (above l.table l.place)
