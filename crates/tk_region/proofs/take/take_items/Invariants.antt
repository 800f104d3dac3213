use Rattle.std.proofs.Common.{◌≡◌, ◌+◌, ◌≤◌, length, take}
use Rattle.std.specs.FinMap as map
use Rattle.tk_region.specs.Taking.{items_taken}
use Rattle.tk_region.proofs.take.take_items.Given as goal

-- the items so far are taken in, and the dots that were unknown are counted
abbrev pub invariant-loop-item : goal.invariant-loop-item
invariant-loop-item l = record {
  so_far : l.ledger ≡ items_taken l.fn.ledger (take (length l.yielded) l.fn.sent.items);
  counted : map.len l.fn.ledger.slots + l.taken ≡ map.len l.ledger.slots;
  few : l.taken ≤ length l.yielded;
}
