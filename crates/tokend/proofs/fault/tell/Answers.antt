use Rattle.std.proofs.Common.{sym, subst}
use Rattle.tokend.specs.ProgramRun.{ReportsFault}
use Rattle.tokend.specs.Telling.{writer_of}
use Rattle.tokend.proofs.fault.tell.Goals as goal

pub returns-in-CannotListen : goal.returns-in-CannotListen
returns-in-CannotListen g c =
    subst (λ fault.
    ReportsFault fault (writer_of g.F.Sink.holds g.F.Sink.failed c.args.faults.now)
    (writer_of g.F.Sink.holds g.F.Sink.failed c.say-in-CannotListen.new.faults))
    (sym c.in-CannotListen.is) c.say-in-CannotListen.ensures

pub returns-in-SharedFolder : goal.returns-in-SharedFolder
returns-in-SharedFolder g c =
    subst (λ fault.
    ReportsFault fault (writer_of g.F.Sink.holds g.F.Sink.failed c.args.faults.now)
    (writer_of g.F.Sink.holds g.F.Sink.failed c.say-in-SharedFolder.new.faults))
    (sym c.in-SharedFolder.is) c.say-in-SharedFolder.ensures

pub returns-in-SocketInUse : goal.returns-in-SocketInUse
returns-in-SocketInUse g c =
    subst (λ fault.
    ReportsFault fault (writer_of g.F.Sink.holds g.F.Sink.failed c.args.faults.now)
    (writer_of g.F.Sink.holds g.F.Sink.failed c.say-in-SocketInUse.new.faults))
    (sym c.in-SocketInUse.is) c.say-in-SocketInUse.ensures

pub returns-in-PruneAhead : goal.returns-in-PruneAhead
returns-in-PruneAhead g c =
    subst (λ fault.
    ReportsFault fault (writer_of g.F.Sink.holds g.F.Sink.failed c.args.faults.now)
    (writer_of g.F.Sink.holds g.F.Sink.failed c.say-in-PruneAhead.new.faults))
    (sym c.in-PruneAhead.is) c.say-in-PruneAhead.ensures

pub returns-in-SocketFailed : goal.returns-in-SocketFailed
returns-in-SocketFailed g c =
    subst (λ fault.
    ReportsFault fault (writer_of g.F.Sink.holds g.F.Sink.failed c.args.faults.now)
    (writer_of g.F.Sink.holds g.F.Sink.failed c.say-in-SocketFailed.new.faults))
    (sym c.in-SocketFailed.is) c.say-in-SocketFailed.ensures
