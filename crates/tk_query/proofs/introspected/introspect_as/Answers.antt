use Rattle.std.proofs.Common.{rules}
use Rattle.tk_query.proofs.introspected.introspect_as.Goals as goal

pub returns-in-Public : goal.returns-in-Public
returns-in-Public c = search rules
