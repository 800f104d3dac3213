use Rattle.tk_store.proofs.SlotOrderLaws.{added_joins}
use Rattle.tk_store.proofs.store.FactStore.take_fact.Goals as goal

pub returns-in-Ok-clause-ok : goal.returns-in-Ok-clause-ok
returns-in-Ok-clause-ok c = added_joins c.args.self.now c.add.new.self c.args.fact.now
    c.in_ok-copy.copy c.in-Ok.field-0 c.in_ok-copy.ensures c.in-Ok.ensures
