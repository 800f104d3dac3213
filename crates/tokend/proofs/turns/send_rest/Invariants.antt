use Rattle.tokend.specs.Telling.{writer_of}
use Rattle.tokend.specs.Turns.{Goes}
use Rattle.tokend.proofs.turns.send_rest.Given as goal

-- the turns so far
abbrev pub invariant-loop : goal.invariant-loop
invariant-loop g l =
    Goes (record {
      server = l.fn.server;
      log = g.L.Sink.holds l.fn.log.log;
      faults = writer_of g.F.Sink.holds g.F.Sink.failed l.fn.faults;
    })
    (record {
      server = l.server;
      log = g.L.Sink.holds l.log.log;
      faults = writer_of g.F.Sink.holds g.F.Sink.failed l.faults;
    })
