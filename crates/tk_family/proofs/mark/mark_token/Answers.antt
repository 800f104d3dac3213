use Rattle.tk_family.specs.Rows.{table}
use Rattle.tk_family.specs.Puts.{NothingSeen}
use Rattle.tk_family.proofs.Columns.{Alike-blank, Alike-same, NothingSeen-alike, present-blank}
use Rattle.tk_family.proofs.Marking.{MarksOne-from, MarksOne-seen, IsCountedAs-marked}
use Rattle.tk_family.proofs.Marking.{AlikeButMarks-marked, code_row}
use Rattle.tk_family.proofs.mark.mark_token.Goals as goal
use Rattle.tk_handle.proofs.TestLaws.{always_err as on_err}

pub recount-requires-clause-counted : goal.recount-requires-clause-counted
recount-requires-clause-counted c =
    let T = table c.args.rows.now in
    let M = table c.add_row.new.rows in
    let S = table c.set_marked.new.rows in
    let seen = NothingSeen-alike T M c.requires
    (Alike-blank T M c.args.token.dot c.in_ok-add_row.ensures.ok) in
    rw c.is_bad-was.ensures
    (IsCountedAs-marked M S c.args.token seen.forest c.set_marked.ensures.rows)

pub recount-requires-clause-coded : goal.recount-requires-clause-coded
recount-requires-clause-coded c = λ code h.
    let T = table c.args.rows.now in
    let M = table c.add_row.new.rows in
    let S = table c.set_marked.new.rows in
    let seen = NothingSeen-alike T M c.requires
    (Alike-blank T M c.args.token.dot c.in_ok-add_row.ensures.ok) in
    code_row M S c.args.token.dot code seen.forest
    (AlikeButMarks-marked M S c.args.token c.set_marked.ensures.rows) h

pub returns-in_err-add_row-clause-err : goal.returns-in_err-add_row-clause-err
returns-in_err-add_row-clause-err c =
    let seen = NothingSeen-alike (table c.args.rows.now) (table c.add_row.new.rows) c.requires
    (Alike-same (table c.args.rows.now) (table c.add_row.new.rows) c.in_err-add_row.ensures.err) in
    on_err (NothingSeen (table c.args.rows.now) (table c.add_row.new.rows)) c.from_residual.result
    seen

pub returns-clause-ok : goal.returns-clause-ok
returns-clause-ok c =
    let T = table c.args.rows.now in
    let M = table c.add_row.new.rows in
    let seen = NothingSeen-alike T M c.requires
    (Alike-blank T M c.args.token.dot c.in_ok-add_row.ensures.ok) in
    MarksOne-seen T M (table c.recount.new.rows) c.args.token seen
    (MarksOne-from M (table c.set_marked.new.rows) (table c.recount.new.rows) c.args.token
    seen.forest (present-blank T M c.args.token.dot c.in_ok-add_row.ensures.ok)
    c.set_marked.ensures.rows c.recount.ensures.alike c.recount.ensures.counted)
