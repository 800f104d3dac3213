use Rattle.std.proofs.Common.{rules}
use Rattle.tk_message.proofs.caller.find_caller.Goals as goal

pub returns-then-has_twice : goal.returns-then-has_twice
returns-then-has_twice c = search rules
