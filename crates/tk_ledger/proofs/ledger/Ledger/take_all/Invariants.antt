use Rattle.std.proofs.Common.{◌≡◌, length}
use Rattle.tk_store.specs.SlotJoining.{Joins}
use Rattle.tk_store.specs.Walk.{above}
use Rattle.tk_ledger.proofs.ledger.Ledger.take_all.Given as goal

abbrev pub invariant-slots : goal.invariant-slots
invariant-slots l = record {
  joins : Joins l.fn.self.slots l.other.slots l.self.slots (above l.other.slots l.place);
  horizon : l.self.horizon ≡ l.fn.self.horizon;
}

abbrev pub decreases-slots : goal.decreases-slots
decreases-slots l = length (above l.other.slots l.place)
