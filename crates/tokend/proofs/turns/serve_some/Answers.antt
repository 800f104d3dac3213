use Rattle.std.proofs.Common.{◌∙◌, arith}
use Rattle.tokend.proofs.Turning.{goes_both, goes_nowhere}
use Rattle.tokend.proofs.turns.serve_some.Goals as goal

pub loop-init : goal.loop-init
loop-init g c = (goes_nowhere _, omega arith)

pub turn-requires : goal.turn-requires
turn-requires g c = c.loop.invariant.0.fault ∙ c.requires.told

pub returns-then-server-left-clause-goes : goal.returns-then-server-left-clause-goes
returns-then-server-left-clause-goes g c = goes_both _ _ _ c.loop.invariant.0 c.turn.ensures.goes

pub loop-preserved : goal.loop-preserved
loop-preserved g c =
    (goes_both _ _ _ c.loop.invariant.0 c.turn.ensures.goes, c.if-server-left.false)

pub returns-clause-goes : goal.returns-clause-goes
returns-clause-goes g c =
    goes_both _ _ _ c.loop.invariant.0 (c.miss.ensures.goes (g.L.Sink.holds c.loop.log.log))

pub returns-clause-fewer : goal.returns-clause-fewer
returns-clause-fewer g c =
    omega (
      arith,
      c.miss.ensures.counted,
      c.loop.invariant.1,
      c.requires.some,
      c.loop.invariant.0.counted,
    )
