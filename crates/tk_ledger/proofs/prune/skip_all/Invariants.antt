use Rattle.std.proofs.Common.{take}
use Rattle.tk_family.specs.Dots.{has}
use Rattle.tk_store.specs.StoreFields.{held_facts}
use Rattle.tk_ledger.specs.Index.{IsIndexed}
use Rattle.tk_ledger.specs.Retention.{SkipsAll}
use Rattle.tk_ledger.proofs.prune.skip_all.Given as goal

-- the dots so far are skipped
abbrev pub invariant-loop-dot : goal.invariant-loop-dot
invariant-loop-dot l = record {
  skips : SkipsAll l.initial.store (has (take l.dot-index l.dots)) l.store;
  indexed : IsIndexed (held_facts l.store) l.index;
}
