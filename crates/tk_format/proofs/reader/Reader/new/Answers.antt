use Rattle.std.proofs.Common.{rules}
use Rattle.tk_format.proofs.reader.Reader.new.Goals as goal

pub returns : goal.returns
returns c = search rules
