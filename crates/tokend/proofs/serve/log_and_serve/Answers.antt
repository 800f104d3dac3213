use Rattle.std.specs.Option.{unwrap_or}
use Rattle.std.specs.Prelude.{is_some}
use Rattle.tokend.specs.Turns.{keeps_in}
use Rattle.tokend.specs.Telling.{writer_of}
use Rattle.tokend.proofs.Services.{listen_faults, without_log}
use Rattle.tokend.proofs.serve.log_and_serve.Goals as goal

pub returns-in_default-clause-done : goal.returns-in_default-clause-done
returns-in_default-clause-done g c = c.announce_and_serve.ensures.done

pub returns-in_default-clause-served : goal.returns-in_default-clause-served
returns-in_default-clause-served g c =
    without_log (g.D.Folder.kept c.args.folder.now) g.L.Sink.holds
    (g.D.Folder.opens c.args.folder.now c.args.service.now.files.log_part)
    c.args.service.now.files.log c.args.start.now.words c.args.service.now.limits.requests
    (keeps_in c.args.service.now.limits.keep) (unwrap_or c.args.service.now.limits.repeat 0)
    (is_some c.args.service.now.at.inner) c.args.service.now.files.log_taken
    (record {
      start = c.args.start.now.edge;
      end = c.announce_and_serve.new.start.edge;
      faults = record {
        before = writer_of g.F.Sink.holds g.F.Sink.failed c.args.faults.now;
        after = writer_of g.F.Sink.holds g.F.Sink.failed c.announce_and_serve.new.faults;
      };
      prunes = is_some c.args.service.now.limits.prune_margin;
    })
    c.announce_and_serve.result c.in_default.is c.announce_and_serve.ensures.served

pub returns-in_default-clause-fault : goal.returns-in_default-clause-fault
returns-in_default-clause-fault g c =
    listen_faults c.args.service.now c.announce_and_serve.result c.announce_and_serve.ensures.fault

pub returns-in_default-clause-left : goal.returns-in_default-clause-left
returns-in_default-clause-left g c = c.announce_and_serve.ensures.left

pub returns-in_default-clause-silent : goal.returns-in_default-clause-silent
returns-in_default-clause-silent g c = c.announce_and_serve.ensures.silent
