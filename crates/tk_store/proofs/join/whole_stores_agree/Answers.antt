use Rattle.tk_store.proofs.SlotOrderLaws.{whole_agree}
use Rattle.tk_store.proofs.join.whole_stores_agree.Goals as goal

pub returns : goal.returns
returns c = whole_agree
