use Rattle.tk_retention.proofs.KeepingLaws.{prune_stands}
use Rattle.tk_retention.proofs.laws.prune_stands.Goals as goal

pub returns : goal.returns
returns c = prune_stands
