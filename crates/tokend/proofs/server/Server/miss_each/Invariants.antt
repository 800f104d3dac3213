use Rattle.std.proofs.Common.{◌≡◌, ◌-◌, ℕ, List, Option}
use Rattle.tokend.specs.Telling.{writer_of}
use Rattle.tokend.specs.Turns.{Goes}
use Rattle.tokend.proofs.server.Server.miss_each.Given as goal

-- the connections so far are counted
abbrev pub invariant-loop : goal.invariant-loop
invariant-loop g l = ((log : Option (List ℕ)) → Goes
    (record {
      server = l.fn.self;
      log = log;
      faults = writer_of g.F.Sink.holds g.F.Sink.failed l.fn.faults;
    })
    (record {
      server = l.self;
      log = log;
      faults = writer_of g.F.Sink.holds g.F.Sink.failed l.faults;
    }))
    × (l.self.left ≡ l.fn.self.left - l.counter)
