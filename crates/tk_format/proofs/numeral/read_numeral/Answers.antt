use Rattle.std.proofs.Common.{rules}
use Rattle.tk_format.proofs.numeral.read_numeral.Goals as goal

pub returns-else-value-from : goal.returns-else-value-from
returns-else-value-from c = search rules
