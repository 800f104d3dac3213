use Rattle.tk_store.proofs.SlotOrderLaws.{skipped_joins}
use Rattle.tk_store.proofs.store.FactStore.take_mark.Goals as goal

pub returns-in-Ok-clause-ok : goal.returns-in-Ok-clause-ok
returns-in-Ok-clause-ok c =
    skipped_joins c.args.self.now c.skip.new.self c.args.dot c.in-Ok.field-0 c.in-Ok.ensures.skips
