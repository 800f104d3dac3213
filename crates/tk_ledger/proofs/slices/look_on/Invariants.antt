use Rattle.tk_store.specs.StoreFields.{held_facts}
use Rattle.tk_ledger.specs.Index.{IsIndexed}
use Rattle.tk_ledger.proofs.SliceLaws.{Looked}
use Rattle.tk_ledger.proofs.slices.look_on.Given as goal

-- the facts so far were looked at
abbrev pub invariant-loop-turn : goal.invariant-loop-turn
invariant-loop-turn l = record {
  looked : Looked l.initial.store l.fn.after l.fn.count l._turn l.at l.gone l.store;
  indexed : IsIndexed (held_facts l.store) l.index;
}
