use Rattle.tk_retention.proofs.DecisionLaws.{decision_stands}
use Rattle.tk_retention.proofs.laws.decision_stands.Goals as goal

pub returns : goal.returns
returns c = decision_stands
