use Rattle.std.proofs.Common.{rules}
use Rattle.tk_format.specs.Format.{number_spelling}
use Rattle.tk_format.proofs.writer.Writer.put_u64.Goals as goal

pub returns-clause-ok : goal.returns-clause-ok
unfolding number_spelling
returns-clause-ok c = search rules
