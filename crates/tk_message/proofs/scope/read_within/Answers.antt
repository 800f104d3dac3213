use Rattle.std.proofs.Common.{rules}
use Rattle.tk_message.proofs.scope.read_within.Goals as goal

pub returns-else-within : goal.returns-else-within
returns-else-within c = search rules
