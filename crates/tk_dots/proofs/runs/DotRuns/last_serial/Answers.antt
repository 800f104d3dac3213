use Rattle.std.proofs.Common.{subst}
use Rattle.tk_dots.specs.Runs.{DotSet, IsLastIn}
use Rattle.tk_dots.proofs.RunWalkLaws.{last_in, last_none}
use Rattle.tk_dots.proofs.runs.DotRuns.last_serial.Goals as goal

pub returns-in-Some-clause-last : goal.returns-in-Some-clause-last
returns-in-Some-clause-last c =
    let part = c.range.ensures.in_range tt in
    let within = part.3 _ _ c.in-Some.ensures.steps in
    subst (λ (s : DotSet). IsLastIn s c.args.region c.in-Some.end.now) c.self.view_is
    (last_in c.self.inside.runs c.self.invariant c.args.region c.in-Some-Some.first
    c.in-Some-Some.last c.in-Some-Some.ensures.1 c.in-Some-Some.ensures'.1
    c.in-Some.field-0-0.now c.in-Some.end.now within.0 within.1
    (part.4 _ _ c.in-Some.ensures.steps))

pub returns-in-Some-clause-high : goal.returns-in-Some-clause-high
returns-in-Some-clause-high c =
    let part = c.range.ensures.in_range tt in
    let within = part.3 _ _ c.in-Some.ensures.steps in
    c.self.invariant.ranged c.in-Some.field-0-0.now c.in-Some.end.now within.1

pub returns-in-None-clause-last : goal.returns-in-None-clause-last
returns-in-None-clause-last c =
    let part = c.range.ensures.in_range tt in
    subst (λ (s : DotSet). IsLastIn s c.args.region 0) c.self.view_is
    (last_none c.self.inside.runs c.self.invariant c.args.region c.in-Some-Some.first
    c.in-Some-Some.last c.in-Some-Some.ensures.1 c.in-Some-Some.ensures'.1
    (part.5 c.in-None.ensures.steps.0))
