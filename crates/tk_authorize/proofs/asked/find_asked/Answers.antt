use Rattle.std.proofs.Common.{rules}
use Rattle.tk_authorize.proofs.asked.find_asked.Goals as goal

pub returns-then-not-is_state : goal.returns-then-not-is_state
returns-then-not-is_state c = search rules
