use Rattle.std.proofs.Common.{rules}
use Rattle.tk_match.proofs.reply.with_joint.Goals as goal

pub returns : goal.returns
returns c = search rules
