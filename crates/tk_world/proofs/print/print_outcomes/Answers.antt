use Rattle.std.proofs.Common.{◌<◌, ◌≤◌, length, min, subst, arith}
use Rattle.std.specs.Io.KnownBytes.{Appends}
use Rattle.tk_world.proofs.Putting.{lines_more, lines_failed, lines_end}
use Rattle.tk_world.proofs.print.print_outcomes.Goals as goal

pub returns-in-Err : goal.returns-in-Err
returns-in-Err g c =
    let e : c.loop-at.at < length c.args.events.now =
    omega (arith, c.min-at-end.ensures, c.loop-at-test.true) in
    let o : c.loop-at.at < length c.args.outcomes.now =
    omega (arith, c.min-at-end.ensures, c.loop-at-test.true) in
    lines_failed _ _ _ c.args.events.now c.args.outcomes.now c.loop-at.at c.index-events-at.result
    c.index-outcomes-at.result e o c.index-events-at.is c.index-outcomes-at.is c.loop-at.invariant
    c.in-Err.ensures

pub loop-at-preserved : goal.loop-at-preserved
loop-at-preserved g c =
    let e : c.loop-at.at < length c.args.events.now =
    omega (arith, c.min-at-end.ensures, c.loop-at-test.true) in
    let o : c.loop-at.at < length c.args.outcomes.now =
    omega (arith, c.min-at-end.ensures, c.loop-at-test.true) in
    lines_more _ _ _ c.args.events.now c.args.outcomes.now c.loop-at.at c.index-events-at.result
    c.index-outcomes-at.result e o c.index-events-at.is c.index-outcomes-at.is c.loop-at.invariant
    c.in-Ok.ensures

pub returns : goal.returns
returns g c =
    let all : min (length c.args.events.now) (length c.args.outcomes.now) ≤ c.loop-at.at =
    omega (arith, c.min-at-end.ensures, c.loop-at-test.false) in
    subst (λ text.
    Appends (g.O.Write.contents c.args.output.now) (g.O.Write.contents c.loop-at.output) text)
    (lines_end c.args.events.now c.args.outcomes.now c.loop-at.at all) c.loop-at.invariant
