use Rattle.tk_family.proofs.Writing.{same_len}
use Rattle.tk_family.proofs.write.put_row.Goals as goal

pub returns-clause-len : goal.returns-clause-len
returns-clause-len c = same_len c.args.rows.now c.set.new.self c.args.at c.pack.result c.set.ensures
