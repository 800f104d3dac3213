use Rattle.tk_edge.proofs.PushLaws.{refused_lost}
use Rattle.tk_edge.proofs.laws.refused_is_lost.Goals as goal

pub returns : goal.returns
returns c = refused_lost
