use Rattle.std.proofs.Common.{map}
use Rattle.clap.specs.Words.{kind_of}
use Rattle.tokend.proofs.Shows.{refused_fault, refused_left, shown_done}
use Rattle.tokend.proofs.program.run.Goals as goal

pub run_task-ran-requires : goal.run_task-ran-requires
run_task-ran-requires g c = (map g.S.AsStr.text c.args.words.now, c.in-Ok.ensures.task)

pub returns-in-Ok-clause-done : goal.returns-in-Ok-clause-done
returns-in-Ok-clause-done g c =
    c.run_task-ran.ensures.done (map g.S.AsStr.text c.args.words.now) c.in-Ok.ensures.task

pub returns-in-Ok-clause-fault : goal.returns-in-Ok-clause-fault
returns-in-Ok-clause-fault g c =
    c.run_task-ran.ensures.fault (map g.S.AsStr.text c.args.words.now) c.in-Ok.ensures.task

pub returns-in-Ok-clause-left : goal.returns-in-Ok-clause-left
returns-in-Ok-clause-left g c =
    c.run_task-ran.ensures.left (map g.S.AsStr.text c.args.words.now) c.in-Ok.ensures.task

pub returns-in-Err-clause-done : goal.returns-in-Err-clause-done
returns-in-Err-clause-done g c =
    shown_done (g.D.Folder.kept c.args.folder.now) g.L.Sink.holds
    (g.D.Folder.opens c.args.folder.now) (map g.S.AsStr.text c.args.words.now)
    (kind_of c.in-Err.error) c.show_or_refuse.result _ _ _ c.in-Err.ensures.refused
    c.show_or_refuse.ensures.shown

pub returns-in-Err-clause-fault : goal.returns-in-Err-clause-fault
returns-in-Err-clause-fault g c =
    refused_fault (map g.S.AsStr.text c.args.words.now) c.in-Err.error c.show_or_refuse.result _ _ _
    c.in-Err.ensures.refused c.show_or_refuse.ensures.fault

pub returns-in-Err-clause-left : goal.returns-in-Err-clause-left
returns-in-Err-clause-left g c =
    refused_left (g.D.Folder.kept c.args.folder.now) (map g.S.AsStr.text c.args.words.now)
    c.in-Err.error c.show_or_refuse.result _ _ _ c.in-Err.ensures.refused
    c.show_or_refuse.ensures.fault
