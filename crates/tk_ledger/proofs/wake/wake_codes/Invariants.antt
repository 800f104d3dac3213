use Rattle.std.proofs.Common.{◌≡◌}
use Rattle.tk_family.specs.Dots.{has}
use Rattle.tk_family.specs.ForestFacts.{ForestFacts}
use Rattle.tk_store.specs.StoreFields.{held_facts}
use Rattle.tk_ledger.specs.Index.{Wakes}
use Rattle.tk_ledger.specs.SubjectTables.{codes_started, dots_of}
use Rattle.tk_ledger.proofs.wake.wake_codes.Given as goal

-- the links are as before, and if the marks at the codes that are left are written, all are
abbrev pub invariant-loop-key : goal.invariant-loop-key
invariant-loop-key l =
    (l.forest.links ≡ l.fn.forest.links)
    × ((z : ForestFacts) → Wakes (held_facts l.facts) l.forest (has (dots_of l.key-iterator)) z
    → Wakes (held_facts l.facts) l.fn.forest
    (has (dots_of (codes_started l.codes l.prefix l.fn.first l.fn.last))) z)
