use Rattle.std.proofs.Common.{◌≡◌, ◌++◌}
use Rattle.std.specs.FinMap as map
use Rattle.tk_store.specs.StoreFields.{held_facts}
use Rattle.tk_ledger.specs.Retention.{picks_other, picked}
use Rattle.tk_ledger.proofs.retention.list_others.Given as goal

-- the dots of the facts so far are in the list, and the rest are left
abbrev pub invariant-loop-fact : goal.invariant-loop-fact
invariant-loop-fact l =
    (l.list.items ++ picked (picks_other (held_facts l.facts) l.horizon) l.fact-iterator)
    ≡ (l.fn.list.items
    ++ picked (picks_other (held_facts l.facts) l.horizon) (map.entries (held_facts l.facts)))
