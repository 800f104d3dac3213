use Rattle.tk_ledger.proofs.ClientLaws.{withdrawn_stays}
use Rattle.tk_ledger.proofs.laws.withdrawn_stays.Goals as goal

pub returns : goal.returns
returns c = withdrawn_stays
