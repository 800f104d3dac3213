use Rattle.tk_family.specs.Rows.{table}
use Rattle.tk_family.proofs.Marking.{code_row}
use Rattle.tk_family.proofs.Unmarking.{AlikeButMarks-unmarked, IsCountedAs-unmarked, Unmarks-from}
use Rattle.tk_family.proofs.take.unmark_token.Goals as goal

pub recount-requires-clause-counted : goal.recount-requires-clause-counted
recount-requires-clause-counted c = rw c.is_bad-was.ensures
    (IsCountedAs-unmarked (table c.args.rows.now) (table c.set_unmarked.new.rows) c.args.token
    c.requires c.set_unmarked.ensures.rows)

pub recount-requires-clause-coded : goal.recount-requires-clause-coded
recount-requires-clause-coded c = λ code h.
    code_row (table c.args.rows.now) (table c.set_unmarked.new.rows) c.args.token.dot code
    c.requires
    (AlikeButMarks-unmarked (table c.args.rows.now) (table c.set_unmarked.new.rows) c.args.token
    c.set_unmarked.ensures.rows) h

pub returns-clause-unmarks : goal.returns-clause-unmarks
returns-clause-unmarks c =
    Unmarks-from (table c.args.rows.now) (table c.set_unmarked.new.rows) (table c.recount.new.rows)
    c.args.token c.requires c.set_unmarked.ensures.rows c.recount.ensures.alike
    c.recount.ensures.counted
