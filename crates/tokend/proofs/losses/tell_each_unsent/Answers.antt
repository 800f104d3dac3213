use Rattle.tokend.proofs.Turning.{goes_both, goes_nowhere, goes_unsent}
use Rattle.tokend.proofs.losses.tell_each_unsent.Goals as goal

pub loop-init : goal.loop-init
loop-init g c = λ server log. goes_nowhere _

pub loop-preserved : goal.loop-preserved
loop-preserved g c = λ server log.
    goes_both _ _ _ (c.loop.invariant server log) (goes_unsent server log _ _ c.tell_fault.ensures)
