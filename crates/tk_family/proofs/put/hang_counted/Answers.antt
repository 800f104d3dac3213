use Rattle.std.proofs.Common.{sym, ◌∙◌}
use Rattle.tk_family.specs.Rows.{table}
use Rattle.tk_family.proofs.Columns.{no_name}
use Rattle.tk_family.proofs.Assembly.{free_code, hung_rows}
use Rattle.tk_family.proofs.Putting.{hung-all, Hung-alike, IsCounted-hung, IsCountedAs-hung}
use Rattle.tk_family.proofs.put.hang_counted.Goals as goal

pub recount-requires-clause-counted : goal.recount-requires-clause-counted
recount-requires-clause-counted c =
    let T = table c.args.rows.now in
    let names = sym c.named.ensures ∙ c.in-Some.is in
    rw c.is_bad-was.ensures
    (IsCountedAs-hung T (table c.hang.new.rows) c.args.dot c.in-Some.above c.args.link.now
    c.requires.forest.bads (free_code T c.args.dot c.requires.forest c.requires.free) names
    c.requires.own (c.requires.named c.in-Some.above names) c.hang.ensures.rows)

pub recount-requires-clause-coded : goal.recount-requires-clause-coded
recount-requires-clause-coded c = λ code h.
    let T = table c.args.rows.now in
    let M = table c.hang.new.rows in
    hung_rows T M c.args.dot c.args.link.now c.requires.forest
    (hung-all T M c.args.dot c.args.link.now c.requires.free c.requires.own c.requires.named
    c.hang.ensures.rows) c.in-Some.above code h

pub returns-in-Some-clause-hung : goal.returns-in-Some-clause-hung
returns-in-Some-clause-hung c =
    let T = table c.args.rows.now in
    let M = table c.hang.new.rows in
    Hung-alike T M (table c.recount.new.rows) c.args.dot c.args.link.now
    (hung-all T M c.args.dot c.args.link.now c.requires.free c.requires.own c.requires.named
    c.hang.ensures.rows) c.recount.ensures.alike

pub returns-in-None-clause-hung : goal.returns-in-None-clause-hung
returns-in-None-clause-hung c = hung-all (table c.args.rows.now) (table c.hang-in-None.new.rows)
    c.args.dot c.args.link.now c.requires.free c.requires.own c.requires.named
    c.hang-in-None.ensures.rows

pub returns-in-None-clause-counted : goal.returns-in-None-clause-counted
returns-in-None-clause-counted c =
    let T = table c.args.rows.now in
    IsCounted-hung T (table c.hang-in-None.new.rows) c.args.dot c.args.link.now
    c.requires.forest.bads (free_code T c.args.dot c.requires.forest c.requires.free)
    (no_name c.args.link.now (sym c.named.ensures ∙ c.in-None.is)) c.hang-in-None.ensures.rows
