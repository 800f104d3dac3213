use Rattle.tokend.specs.Telling.{writer_of}
use Rattle.tokend.specs.Turns.{Goes}
use Rattle.tokend.proofs.turns.serve_on.Given as goal

-- the connections so far were served
abbrev pub invariant-connections : goal.invariant-connections
invariant-connections g l =
    Goes (record {
      server = l.fn.server;
      log = g.L.Sink.holds l.fn.log.log;
      faults = writer_of g.F.Sink.holds g.F.Sink.failed l.fn.faults;
    })
    (record {
      server = l.server;
      log = g.L.Sink.holds l.log.log;
      faults = writer_of g.F.Sink.holds g.F.Sink.failed l.faults;
    })

abbrev pub decreases-connections : goal.decreases-connections
decreases-connections g l = l.server.left
