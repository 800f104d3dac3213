use Rattle.std.proofs.Common.{◌∙◌}
use Rattle.tokend.proofs.Turning.{goes_both, goes_nowhere}
use Rattle.tokend.proofs.turns.send_rest.Goals as goal

pub loop-init : goal.loop-init
loop-init g c = goes_nowhere _

pub turn-requires : goal.turn-requires
turn-requires g c = c.loop.invariant.fault ∙ c.requires

pub loop-preserved : goal.loop-preserved
loop-preserved g c = goes_both _ _ _ c.loop.invariant c.turn.ensures.goes

pub returns : goal.returns
returns g c = record { goes = goes_both _ _ _ c.loop.invariant c.tell_losses.ensures.goes }
