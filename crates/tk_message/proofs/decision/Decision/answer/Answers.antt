use Rattle.std.proofs.Common.{rules}
use Rattle.tk_message.proofs.decision.Decision.answer.Goals as goal

pub returns : goal.returns
returns c = search rules
