use Rattle.std.proofs.Common.{rules}
use Rattle.tk_edge.proofs.judge.at_service.Goals as goal

pub returns-then-any_repeats : goal.returns-then-any_repeats
returns-then-any_repeats c = search rules
