use Rattle.tk_ledger.proofs.TokenGrowthLaws.{IsDead-below}
use Rattle.tk_ledger.proofs.laws.death_stays.Goals as goal

pub returns : goal.returns
returns c = IsDead-below
