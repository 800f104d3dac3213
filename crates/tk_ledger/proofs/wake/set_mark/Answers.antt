use Rattle.tk_ledger.proofs.WakeLaws.{ok_at, mark_set, mark_cleared}
use Rattle.tk_ledger.proofs.wake.set_mark.Goals as goal

pub returns-then-marked-clause-marks : goal.returns-then-marked-clause-marks
returns-then-marked-clause-marks c = mark_set c.args.forest.now c.mark-done.new.self c.args.token
    c.args.marked c.if-marked.true
    (ok_at c.mark-done.result c.unwrap.result _ c.unwrap.ensures c.mark-done.ensures.marks)

pub returns-else-marked-clause-marks : goal.returns-else-marked-clause-marks
returns-else-marked-clause-marks c = mark_cleared c.args.forest.now c.unmark.new.self c.args.token
    c.args.marked c.if-marked.false c.unmark.ensures.marks
