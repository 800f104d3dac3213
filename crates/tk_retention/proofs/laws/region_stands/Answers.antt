use Rattle.tk_retention.proofs.DecisionLaws.{region_stands}
use Rattle.tk_retention.proofs.laws.region_stands.Goals as goal

pub returns : goal.returns
returns c = region_stands
