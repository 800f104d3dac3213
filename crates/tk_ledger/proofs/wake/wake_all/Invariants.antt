use Rattle.std.proofs.Common.{take}
use Rattle.tk_family.specs.Dots.{has}
use Rattle.tk_store.specs.StoreFields.{held_facts}
use Rattle.tk_ledger.specs.Index.{Wakes}
use Rattle.tk_ledger.proofs.wake.wake_all.Given as goal

-- the marks at the dots so far are written
abbrev pub invariant-loop-at : goal.invariant-loop-at
invariant-loop-at l =
    Wakes (held_facts l.facts) l.initial.forest (has (take l.at-index l.dots)) l.forest
