use Rattle.tk_family.specs.Rows.{table}
use Rattle.tk_family.proofs.Columns.{NothingSeen-then}
use Rattle.tk_family.proofs.take.drop_blanks.Goals as goal

pub returns-in-Some-clause-same : goal.returns-in-Some-clause-same
returns-in-Some-clause-same c = NothingSeen-then (table c.args.rows.now)
    (table c.drop_blank.new.rows) (table c.drop_blank-in-Some.new.rows) c.drop_blank.ensures.same
    c.drop_blank-in-Some.ensures.same
