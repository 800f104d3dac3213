use Rattle.std.proofs.Common.{rules}
use Rattle.tk_message.proofs.reply.asks_by.Goals as goal

pub returns-in_default : goal.returns-in_default
returns-in_default c = search rules
