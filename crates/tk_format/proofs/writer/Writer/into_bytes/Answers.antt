use Rattle.std.proofs.Common.{rules}
use Rattle.tk_format.proofs.writer.Writer.into_bytes.Goals as goal

pub returns : goal.returns
returns c = search rules
