use Rattle.std.proofs.Common.{◌≡◌, subst, arith, ◌+◌, ◌*◌, ◌-◌, length}
use Rattle.tk_dots.specs.Pages.{IsLast, span}
use Rattle.tk_dots.proofs.NextLaws.{last_is, last_none}
use Rattle.tk_dots.proofs.dots.DotMap.last_serial.Goals as goal

pub overflow_sub-result-in-Some : goal.overflow_sub-result-in-Some
overflow_sub-result-in-Some g c =
    let part = c.range.ensures.in_range tt in
    let page = c.self.invariant.pages c.in-Some.page.now c.in-Some.slots.now
    (part.3 _ _ c.in-Some.ensures.steps).1 in
    omega (arith, page.some, c.in-Some.slots.now.ok)

pub returns-in-Some-clause-last : goal.returns-in-Some-clause-last
returns-in-Some-clause-last g c =
    let part = c.range.ensures.in_range tt in
    let within = part.3 _ _ c.in-Some.ensures.steps in
    let at : (c.in-Some.page.now.serial - 1) * span + (length c.in-Some.slots.now.items - 1)
    ≡ (c.serial.result - 1) * 64 + (c.len.result - 1) =
    omega (arith, c.serial.ensures.value, c.len.ensures, c.in-Some.slots.now.ok) in
    subst (IsLast c.args.self.now c.args.region) at
    (last_is c.self.inside.pages c.args.self.now c.self.view_is c.self.invariant.pages c.args.region
    c.in-Some-Some.first c.in-Some-Some.last c.in-Some-Some.ensures.1 c.in-Some-Some.ensures'.1
    c.in-Some.page.now c.in-Some.slots.now within.0 within.1
    (omega (arith, c.serial.ensures.value, c.serial.ensures.range.0))
    (part.4 _ _ c.in-Some.ensures.steps))

pub returns-in-None-clause-last : goal.returns-in-None-clause-last
returns-in-None-clause-last g c =
    let part = c.range.ensures.in_range tt in
    last_none c.self.inside.pages c.args.self.now c.self.view_is c.self.invariant.pages
    c.args.region c.in-Some-Some.first c.in-Some-Some.last c.in-Some-Some.ensures.1
    c.in-Some-Some.ensures'.1
    (part.5 c.in-None.ensures.steps.0)
