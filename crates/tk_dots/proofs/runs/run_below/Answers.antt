use Rattle.std.proofs.Common.{◌∙◌, sym}
use Rattle.tk_dots.proofs.RunLaws.{below_is, below_other, below_none, nat_test, nat_apart}
use Rattle.tk_dots.proofs.runs.run_below.Goals as goal

pub returns-then-eq : goal.returns-then-eq
returns-then-eq c =
    let part = c.range.ensures.in_range tt in
    let within = part.3 _ _ c.in-Some.ensures.steps in
    below_is c.args.runs.now c.args.dot c.in-Some.first.now c.in-Some.last.now within.0 within.1
    (part.4 _ _ c.in-Some.ensures.steps)
    (nat_test c.region.result c.region-in-Some.result c.in-Some.first.now.region c.args.dot.region
    c.region.ensures.value c.region-in-Some.ensures.value (sym c.eq.ensures ∙ c.if-eq.true))

pub returns-else-eq : goal.returns-else-eq
returns-else-eq c =
    let part = c.range.ensures.in_range tt in
    let within = part.3 _ _ c.in-Some.ensures.steps in
    below_other c.args.runs.now c.args.dot c.in-Some.first.now within.0
    (part.4 _ _ c.in-Some.ensures.steps)
    (nat_apart c.region.result c.region-in-Some.result c.in-Some.first.now.region c.args.dot.region
    c.region.ensures.value c.region-in-Some.ensures.value (sym c.eq.ensures ∙ c.if-eq.false))

pub returns-in-None : goal.returns-in-None
returns-in-None c =
    let part = c.range.ensures.in_range tt in
    below_none c.args.runs.now c.args.dot (part.5 c.in-None.ensures.steps.0)
