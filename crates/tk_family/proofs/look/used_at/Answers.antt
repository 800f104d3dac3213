use Rattle.std.proofs.Common.{rules}
use Rattle.tk_family.proofs.look.used_at.Goals as goal

pub returns-in-Code : goal.returns-in-Code
returns-in-Code c = search rules
