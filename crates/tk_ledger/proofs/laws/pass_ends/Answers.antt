use Rattle.tk_ledger.proofs.SlicePassLaws.{pass_ends}
use Rattle.tk_ledger.proofs.laws.pass_ends.Goals as goal

pub returns : goal.returns
returns c = pass_ends
