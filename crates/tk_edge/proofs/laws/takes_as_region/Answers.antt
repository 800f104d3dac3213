use Rattle.tk_edge.proofs.PushLaws.{taken_as}
use Rattle.tk_edge.proofs.laws.takes_as_region.Goals as goal

pub returns : goal.returns
returns c = taken_as
