use Rattle.std.proofs.Common.{sym, subst}
use Rattle.tk_store.specs.FactSet.{FactSet}
use Rattle.tk_store.proofs.SlotLaws.{empty_held}
use Rattle.tk_ledger.specs.Index.{IsIndexed}
use Rattle.tk_ledger.proofs.ledger.Ledger.new.Goals as goal

pub invariant_of-result : goal.invariant_of-result
invariant_of-result c = subst (λ (F : FactSet). IsIndexed F c.new-2.result)
    (sym (empty_held c.new.result c.new.ensures)) c.new-2.ensures
