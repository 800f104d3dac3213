use Rattle.std.proofs.Common.{arith}
use Rattle.tokend.proofs.Turning.{goes_both, goes_nowhere}
use Rattle.tokend.proofs.server.Server.miss_each.Goals as goal

pub loop-init : goal.loop-init
loop-init g c = (λ log. goes_nowhere _, omega arith)

pub loop-preserved : goal.loop-preserved
loop-preserved g c = (
  λ log. goes_both _ _ _ (c.loop.invariant.0 log) (c.miss.ensures.goes log),
  omega (arith, c.loop.invariant.1, c.miss.ensures.counted),
)
