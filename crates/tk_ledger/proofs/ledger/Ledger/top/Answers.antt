use Rattle.std.proofs.Common.{subst, ap}
use Rattle.tk_store.specs.FactSet.{FactSet}
use Rattle.tk_store.specs.StoreFields.{held_facts}
use Rattle.tk_ledger.specs.ByTop.{TopSays}
use Rattle.tk_ledger.proofs.TopLaws.{top_says}
use Rattle.tk_ledger.proofs.ledger.Ledger.top.Goals as goal

pub returns-clause-value : goal.returns-clause-value
returns-clause-value c =
    subst (λ (F : FactSet). TopSays F c.args.dot c.top.result) (ap held_facts c.self.view_is)
    (top_says (held_facts c.self.inside.store) c.self.inside.index.forest c.args.dot c.top.result
    c.self.invariant.tied c.top.ensures.top)
