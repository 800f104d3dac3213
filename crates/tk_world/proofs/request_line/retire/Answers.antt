use Rattle.std.proofs.Common.{arith}
use Rattle.std.proofs.lemmas.Grind.{common_steps}
use Rattle.tk_world.proofs.request_line.retire.Goals as goal

pub returns-in_ok-body-in-len1 : goal.returns-in_ok-body-in-len1
returns-in_ok-body-in-len1 c = grind (arith, common_steps)
