use Rattle.tk_edge.proofs.StreamLaws.{all_heard}
use Rattle.tk_edge.proofs.laws.hears_all.Goals as goal

pub returns : goal.returns
returns c = all_heard
