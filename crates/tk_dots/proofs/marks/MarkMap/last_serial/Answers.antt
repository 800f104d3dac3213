use Rattle.std.proofs.Common.{arith}
use Rattle.tk_dots.proofs.MarkWalkLaws.{last_is}
use Rattle.tk_dots.proofs.marks.MarkMap.last_serial.Goals as goal

pub returns-then-page-run-clause-last : goal.returns-then-page-run-clause-last
returns-then-page-run-clause-last g c =
    let lt = c.if-page-run.true in
    last_is c.self.inside.pages c.self.inside.runs c.args.self.now c.self.view_is c.self.invariant
    c.args.region c.last_serial-page.result c.last_serial-run.result c.last_serial-run.result
    c.last_serial-page.ensures.last c.last_serial-run.ensures.last (omega (arith, lt))

pub returns-else-page-run-clause-last : goal.returns-else-page-run-clause-last
returns-else-page-run-clause-last g c =
    let ge = c.if-page-run.false in
    last_is c.self.inside.pages c.self.inside.runs c.args.self.now c.self.view_is c.self.invariant
    c.args.region c.last_serial-page.result c.last_serial-run.result c.last_serial-page.result
    c.last_serial-page.ensures.last c.last_serial-run.ensures.last (omega (arith, ge))
