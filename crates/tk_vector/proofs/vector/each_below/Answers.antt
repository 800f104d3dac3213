use Rattle.std.proofs.Common.{rules}
use Rattle.tk_vector.proofs.vector.each_below.Goals as goal

pub returns-then-get-number : goal.returns-then-get-number
returns-then-get-number c = search rules
