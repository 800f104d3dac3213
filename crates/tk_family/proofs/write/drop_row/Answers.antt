use Rattle.tk_family.proofs.Writing.{dropped, fewer}
use Rattle.tk_family.proofs.write.drop_row.Goals as goal

pub returns-clause-rows : goal.returns-clause-rows
returns-clause-rows c =
    dropped c.args.rows.now c.take-row.new.self c.args.at c.take-row.ensures.rest

pub returns-clause-len : goal.returns-clause-len
returns-clause-len c = fewer c.args.rows.now c.take-row.new.self c.args.at c.take-row.ensures.rest
