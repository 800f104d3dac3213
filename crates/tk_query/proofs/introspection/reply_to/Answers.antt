use Rattle.std.proofs.Common.{rules}
use Rattle.tk_query.proofs.introspection.reply_to.Goals as goal

pub returns-in-Access : goal.returns-in-Access
returns-in-Access c = search rules
