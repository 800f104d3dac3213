use Rattle.tk_grant.proofs.RepeatLaws.{repeats_reply}
use Rattle.tk_grant.proofs.laws.repeats_reply.Goals as goal

pub returns : goal.returns
returns c = repeats_reply
