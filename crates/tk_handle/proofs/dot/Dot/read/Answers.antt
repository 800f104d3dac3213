use Rattle.std.proofs.Common.{rules}
use Rattle.tk_handle.proofs.dot.Dot.read.Goals as goal

pub returns : goal.returns
returns c = search rules
