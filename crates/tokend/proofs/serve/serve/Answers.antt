use Rattle.std.proofs.Common.{ap, subst}
use Rattle.std.specs.Prelude.{IfErr}
use Rattle.tk_region.specs.RegionFields.{RegionFields}
use Rattle.tokend.specs.Serving.{LeavesService}
use Rattle.tokend.specs.Telling.{writer_of}
use Rattle.tokend.proofs.Services.{service_run}
use Rattle.tokend.proofs.serve.serve.Goals as goal

pub returns-in-Ok-clause-done : goal.returns-in-Ok-clause-done
returns-in-Ok-clause-done g c =
    service_run (g.D.Folder.kept c.args.folder.now) g.L.Sink.holds
    (g.D.Folder.opens c.args.folder.now c.args.service.now.files.log_part) c.args.service.now
    c.in-Ok.start.edge c.in-Ok.start.words
    (record {
      before = g.O.Write.contents c.args.output.now;
      after = g.O.Write.contents c.load_and_serve-served.new.output;
    })
    (record {
      before = writer_of g.F.Sink.holds g.F.Sink.failed c.args.faults.now;
      after = writer_of g.F.Sink.holds g.F.Sink.failed c.load_and_serve-served.new.faults;
    })
    c.load_and_serve-served.result c.in-Ok.ensures.start c.load_and_serve-served.ensures.done

pub returns-in-Ok-clause-left : goal.returns-in-Ok-clause-left
returns-in-Ok-clause-left g c =
    subst (λ (r : RegionFields). IfErr c.load_and_serve-served.result
    (λ fault. LeavesService (g.D.Folder.kept c.args.folder.now) c.args.service.now r fault
    (g.O.Write.contents c.args.output.now) (g.O.Write.contents c.load_and_serve-served.new.output)))
    (ap (λ e. e.region) c.in-Ok.ensures.start.0) c.load_and_serve-served.ensures.left
