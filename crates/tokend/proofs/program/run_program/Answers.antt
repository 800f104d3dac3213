use Rattle.std.proofs.Common.{map, arith}
use Rattle.tokend.specs.ProgramRun.{IsDone}
use Rattle.tokend.specs.Telling.{writer_of}
use Rattle.tokend.proofs.Runs.{ended_badly, ended_well}
use Rattle.tokend.proofs.program.run_program.Goals as goal

pub returns-clause-done : goal.returns-clause-done
returns-clause-done g c =
    ended_well (writer_of g.F.Sink.holds g.F.Sink.failed)
    (λ faults. IsDone (g.D.Folder.kept c.args.folder.now) g.L.Sink.holds
    (g.D.Folder.opens c.args.folder.now) (map g.S.AsStr.text c.args.words.now)
    (g.I.Read.remaining c.args.input.now)
    (record {
      before = g.O.Write.contents c.args.output.now;
      after = g.O.Write.contents c.run.new.output;
    })
    (record {
      before = writer_of g.F.Sink.holds g.F.Sink.failed c.args.faults.now;
      after = writer_of g.F.Sink.holds g.F.Sink.failed faults;
    }))
    c.run.result c.finish.result c.run.new.faults c.finish.new.faults c.finish.ensures
    c.run.ensures.done

pub returns-clause-broken : goal.returns-clause-broken
returns-clause-broken g c =
    λ e. ended_badly (g.D.Folder.kept c.args.folder.now) (map g.S.AsStr.text c.args.words.now) _ _ _
    (writer_of g.F.Sink.holds g.F.Sink.failed) c.run.result c.finish.result 1 c.args.faults.now
    c.run.new.faults c.finish.new.faults
    c.finish.ensures c.run.ensures.fault c.run.ensures.left c.run.ensures.silent e (omega (arith))

pub returns-clause-refused : goal.returns-clause-refused
returns-clause-refused g c =
    λ e. ended_badly (g.D.Folder.kept c.args.folder.now) (map g.S.AsStr.text c.args.words.now) _ _ _
    (writer_of g.F.Sink.holds g.F.Sink.failed) c.run.result c.finish.result 2 c.args.faults.now
    c.run.new.faults c.finish.new.faults
    c.finish.ensures c.run.ensures.fault c.run.ensures.left c.run.ensures.silent e (omega (arith))

pub returns-clause-in_use : goal.returns-clause-in_use
returns-clause-in_use g c =
    λ e. ended_badly (g.D.Folder.kept c.args.folder.now) (map g.S.AsStr.text c.args.words.now) _ _ _
    (writer_of g.F.Sink.holds g.F.Sink.failed) c.run.result c.finish.result 3 c.args.faults.now
    c.run.new.faults c.finish.new.faults
    c.finish.ensures c.run.ensures.fault c.run.ensures.left c.run.ensures.silent e (omega (arith))
