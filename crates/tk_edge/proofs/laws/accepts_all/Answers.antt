use Rattle.tk_edge.proofs.PushLaws.{all_accepted}
use Rattle.tk_edge.proofs.laws.accepts_all.Goals as goal

pub returns : goal.returns
returns c = all_accepted
