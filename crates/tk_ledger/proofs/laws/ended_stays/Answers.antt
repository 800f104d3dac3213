use Rattle.tk_ledger.proofs.TokenGrowthLaws.{IsEnded-below}
use Rattle.tk_ledger.proofs.laws.ended_stays.Goals as goal

pub returns : goal.returns
returns c = IsEnded-below
