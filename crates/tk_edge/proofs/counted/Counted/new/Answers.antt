use Rattle.std.proofs.Common.{rules}
use Rattle.tk_edge.proofs.counted.Counted.new.Goals as goal

pub returns-clause-none : goal.returns-clause-none
returns-clause-none g c = search rules
