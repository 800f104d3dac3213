use Rattle.std.proofs.Common.{ℕ, List, Option}
use Rattle.tokend.specs.Telling.{writer_of}
use Rattle.tokend.specs.Turns.{Goes}
use Rattle.tokend.specs.declared.server.Server.{Server}
use Rattle.tokend.proofs.losses.tell_each_unsent.Given as goal

-- the lines so far are written
abbrev pub invariant-loop : goal.invariant-loop
invariant-loop g l = (server : Server) (log : Option (List ℕ)) → Goes
    (record {
      server = server;
      log = log;
      faults = writer_of g.F.Sink.holds g.F.Sink.failed l.fn.faults;
    })
    (record {
      server = server;
      log = log;
      faults = writer_of g.F.Sink.holds g.F.Sink.failed l.faults;
    })
