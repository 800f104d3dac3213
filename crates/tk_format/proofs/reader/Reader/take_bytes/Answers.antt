use Rattle.std.proofs.Common.{rules}
use Rattle.tk_format.proofs.reader.Reader.take_bytes.Goals as goal

pub returns-clause-len : goal.returns-clause-len
returns-clause-len c = search rules
