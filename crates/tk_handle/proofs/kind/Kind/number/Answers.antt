use Rattle.std.proofs.Common.{rules}
use Rattle.tk_handle.proofs.kind.Kind.number.Goals as goal

pub returns-in-Refresh : goal.returns-in-Refresh
returns-in-Refresh c = search rules
