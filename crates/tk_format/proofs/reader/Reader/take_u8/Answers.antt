use Rattle.std.proofs.Common.{rules}
use Rattle.tk_format.proofs.reader.Reader.take_u8.Goals as goal

pub returns-clause-read : goal.returns-clause-read
returns-clause-read c = search rules
