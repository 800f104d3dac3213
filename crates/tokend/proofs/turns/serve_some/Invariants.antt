use Rattle.std.proofs.Common.{◌≤◌}
use Rattle.tokend.specs.Telling.{writer_of}
use Rattle.tokend.specs.Turns.{Goes}
use Rattle.tokend.proofs.turns.serve_some.Given as goal

-- no connection was served so far, and replies may be lost
abbrev pub invariant-loop : goal.invariant-loop
invariant-loop g l =
    Goes (record {
      server = l.fn.server;
      log = g.L.Sink.holds l.fn.log.log;
      faults = writer_of g.F.Sink.holds g.F.Sink.failed l.fn.faults;
    })
    (record {
      server = l.server;
      log = g.L.Sink.holds l.log.log;
      faults = writer_of g.F.Sink.holds g.F.Sink.failed l.faults;
    })
    × (l.fn.server.left ≤ l.server.left)
