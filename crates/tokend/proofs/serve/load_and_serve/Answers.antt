use Rattle.std.proofs.Common.{Ok, subst}
use Rattle.tk_region.specs.RegionFields.{RegionFields}
use Rattle.tokend.specs.Starting.{LoadsOld}
use Rattle.tokend.specs.Telling.{writer_of}
use Rattle.tokend.proofs.Services.{has_run, opening_left}
use Rattle.tokend.proofs.serve.load_and_serve.Goals as goal

pub returns-in-Ok-clause-done : goal.returns-in-Ok-clause-done
returns-in-Ok-clause-done g c =
    let service = c.args.service.now in
    let kept = g.D.Folder.kept c.args.folder.now in
    let loaded = subst (λ (r : RegionFields).
    LoadsOld kept service.files.load r (Ok c.in-Ok.dropped) c.load_old.new.region)
    c.region_mut.ensures.value c.in-Ok.ensures in
    has_run kept g.L.Sink.holds
    (g.D.Folder.opens c.args.folder.now c.args.service.now.files.log_part) service
    c.args.start.now.edge c.args.start.now.words c.in-Ok.dropped c.load_old.new.region
    (record {
      before = g.O.Write.contents c.args.output.now;
      after = g.O.Write.contents c.prune_and_serve.new.output;
    })
    (record {
      before = writer_of g.F.Sink.holds g.F.Sink.failed c.args.faults.now;
      after = writer_of g.F.Sink.holds g.F.Sink.failed c.prune_and_serve.new.faults;
    })
    c.prune_and_serve.result loaded c.prune_and_serve.ensures.done

pub returns-in-Ok-clause-left : goal.returns-in-Ok-clause-left
returns-in-Ok-clause-left g c =
    let service = c.args.service.now in
    let kept = g.D.Folder.kept c.args.folder.now in
    let loaded = subst (λ (r : RegionFields).
    LoadsOld kept service.files.load r (Ok c.in-Ok.dropped) c.load_old.new.region)
    c.region_mut.ensures.value c.in-Ok.ensures in
    opening_left kept service c.args.start.now.edge.region c.load_old.new.region c.in-Ok.dropped _ _
    c.prune_and_serve.result loaded c.prune_and_serve.ensures.left
