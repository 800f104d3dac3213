use Rattle.tk_edge.proofs.StreamLaws.{has_one_meaning}
use Rattle.tk_edge.proofs.laws.one_meaning.Goals as goal

pub returns : goal.returns
returns c = has_one_meaning
