use Rattle.tk_retention.proofs.StatusStandsLaws.{status_stands}
use Rattle.tk_retention.proofs.laws.status_stands.Goals as goal

pub returns : goal.returns
returns c = status_stands
