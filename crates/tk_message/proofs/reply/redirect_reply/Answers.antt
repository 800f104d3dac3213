use Rattle.std.proofs.Common.{rules}
use Rattle.tk_message.proofs.reply.redirect_reply.Goals as goal

pub returns : goal.returns
returns c = search rules
