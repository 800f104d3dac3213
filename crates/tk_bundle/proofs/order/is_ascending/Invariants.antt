use Rattle.std.proofs.Common.{◌≡◌, drop, None}
use Rattle.tk_bundle.specs.Bundle.{ascends}
use Rattle.tk_bundle.proofs.order.is_ascending.Given as goal

abbrev pub invariant-loop-item : goal.invariant-loop-item
invariant-loop-item l = ascends l.last (drop l.item-index l.items) ≡ ascends None l.items
