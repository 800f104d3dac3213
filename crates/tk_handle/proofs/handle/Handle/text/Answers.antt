use Rattle.std.proofs.Common.{rules}
use Rattle.tk_handle.proofs.handle.Handle.text.Goals as goal

pub returns : goal.returns
returns c = search rules
