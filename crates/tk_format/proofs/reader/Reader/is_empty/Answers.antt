use Rattle.std.proofs.Common.{rules}
use Rattle.tk_format.proofs.reader.Reader.is_empty.Goals as goal

pub returns : goal.returns
returns c = search rules
