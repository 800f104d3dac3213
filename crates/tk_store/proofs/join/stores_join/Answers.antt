use Rattle.tk_store.proofs.SlotOrderLaws.{store_laws}
use Rattle.tk_store.proofs.join.stores_join.Goals as goal

pub returns : goal.returns
returns c = store_laws
