use Rattle.std.proofs.Common.{arith}
use Rattle.tokend.proofs.Turning.{goes_both, goes_nowhere}
use Rattle.tokend.proofs.server.Server.part_each.Goals as goal

pub loop-init : goal.loop-init
loop-init c = (λ log faults. goes_nowhere _, omega arith)

pub loop-preserved : goal.loop-preserved
loop-preserved c = (
  λ log faults. goes_both _ _ _ (c.loop.invariant.0 log faults) (c.part.ensures.goes log faults),
  omega (arith, c.loop.invariant.1, c.part.ensures.counted),
)
