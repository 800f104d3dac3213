use Rattle.std.proofs.Common.{rules}
use Rattle.tk_handle.proofs.dot_text.DotDisplay.fmt.Goals as goal

pub returns-clause-writes : goal.returns-clause-writes
returns-clause-writes g c = search rules
