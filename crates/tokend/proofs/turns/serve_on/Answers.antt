use Rattle.std.proofs.Common.{◌∙◌}
use Rattle.tokend.proofs.Turning.{goes_both, goes_nowhere}
use Rattle.tokend.proofs.TurnGrowth.{server_grows}
use Rattle.tokend.proofs.turns.serve_on.Goals as goal

pub connections-init : goal.connections-init
connections-init g c = goes_nowhere _

pub serve_some-requires-clause-told : goal.serve_some-requires-clause-told
serve_some-requires-clause-told g c = c.connections.invariant.fault ∙ c.requires

pub connections-preserved : goal.connections-preserved
connections-preserved g c = goes_both _ _ _ c.connections.invariant c.serve_some.ensures.goes

pub send_rest-requires : goal.send_rest-requires
send_rest-requires g c = c.connections.invariant.fault ∙ c.requires

pub returns-clause-grows : goal.returns-clause-grows
returns-clause-grows g c =
    server_grows _ _ (goes_both _ _ _ c.connections.invariant c.send_rest.ensures.goes)

pub returns-clause-goes : goal.returns-clause-goes
returns-clause-goes g c = goes_both _ _ _ c.connections.invariant c.send_rest.ensures.goes
