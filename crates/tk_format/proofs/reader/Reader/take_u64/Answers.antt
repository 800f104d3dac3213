use Rattle.std.proofs.Common.{rules}
use Rattle.tk_format.specs.Format.{number_at}
use Rattle.tk_format.proofs.reader.Reader.take_u64.Goals as goal

pub returns-clause-read : goal.returns-clause-read
unfolding number_at
returns-clause-read c = search rules
