use Rattle.tk_family.specs.Rows.{table}
use Rattle.tk_family.proofs.Recounting.{clear-fits}
use Rattle.tk_family.proofs.Taking.{codes_below}
use Rattle.tk_family.proofs.take.clear_below.Goals as goal

pub clear-requires-in-Ok : goal.clear-requires-in-Ok
clear-requires-in-Ok c =
    let T = table c.args.rows.now in
    let ys = c.gather_into.new.list.items in
    let got = c.in-Ok.ensures.ok in
    rw c.as_slice.ensures.value
    (clear-fits T c.args.code ys c.requires.forest.bads got.distinct
    (codes_below T c.args.dot c.args.link.now c.args.code ys c.requires.forest c.requires.here
    c.requires.code got))
