use Rattle.std.proofs.Common.{arith}
use Rattle.std.proofs.lemmas.Grind.{common_steps}
use Rattle.tk_vector.proofs.text.raised_by.Goals as goal

pub loop-dot-preserved : goal.loop-dot-preserved
loop-dot-preserved c = grind (arith, common_steps)
