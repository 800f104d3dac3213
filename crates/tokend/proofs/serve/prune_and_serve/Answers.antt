use Rattle.std.proofs.Common.{Ok, subst}
use Rattle.tk_region.specs.RegionFields.{RegionFields}
use Rattle.tokend.specs.Starting.{PrunesOld}
use Rattle.tokend.specs.Telling.{writer_of}
use Rattle.tokend.proofs.Services.{has_opened}
use Rattle.tokend.proofs.serve.prune_and_serve.Goals as goal

pub returns-in-Ok-clause-done : goal.returns-in-Ok-clause-done
returns-in-Ok-clause-done g c =
    let service = c.args.service.now in
    let prunes = subst (λ (r : RegionFields).
    PrunesOld service.files.prune r (Ok c.in-Ok.pruned) c.prune_old.new.region)
    c.region_mut.ensures.value c.in-Ok.ensures.prunes in
    has_opened (g.D.Folder.kept c.args.folder.now) g.L.Sink.holds
    (g.D.Folder.opens c.args.folder.now c.args.service.now.files.log_part) service c.args.dropped
    c.args.start.now.edge c.args.start.now.words c.in-Ok.pruned c.prune_old.new.region
    c.log_and_serve.new.start.edge
    (record {
      before = g.O.Write.contents c.args.output.now;
      after = g.O.Write.contents c.log_and_serve.new.output;
    })
    (record {
      before = writer_of g.F.Sink.holds g.F.Sink.failed c.args.faults.now;
      after = writer_of g.F.Sink.holds g.F.Sink.failed c.log_and_serve.new.faults;
    })
    c.log_and_serve.result prunes c.log_and_serve.ensures.done c.log_and_serve.ensures.served
