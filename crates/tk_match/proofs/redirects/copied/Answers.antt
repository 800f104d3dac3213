use Rattle.std.proofs.Common.{arith}
use Rattle.std.proofs.lemmas.Grind.{common_steps}
use Rattle.tk_match.proofs.redirects.copied.Goals as goal

pub loop-uri-preserved : goal.loop-uri-preserved
loop-uri-preserved c = grind (arith, common_steps)
