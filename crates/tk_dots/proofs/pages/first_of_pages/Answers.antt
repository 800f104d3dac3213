use Rattle.std.specs.Option.{option_map}
use Rattle.std.specs.declared.ops.Bound.TheVariants.{Excluded, Unbounded}
use Rattle.tk_dots.proofs.NextLaws.{range_excluded, range_all, range_has}
use Rattle.tk_dots.proofs.pages.first_of_pages.Goals as goal

pub first_on-requires : goal.first_on-requires
first_on-requires g c = c.requires c.in-Some-next.page.now c.in-Some-next.slots.now
    (range_has c.args.pages.now (Excluded c.in-Some.page) Unbounded c.range.result c.next.new.self
    c.in-Some-next.page.now c.in-Some-next.slots.now (c.range.ensures.in_range tt)
    c.in-Some-next.ensures.steps)

pub first_on-requires-in-Some-next-2 : goal.first_on-requires-in-Some-next-2
first_on-requires-in-Some-next-2 g c =
    c.requires c.in-Some-next-2.page.now c.in-Some-next-2.slots.now
    (range_has c.args.pages.now Unbounded Unbounded c.range-in-None.result c.next-in-None.new.self
    c.in-Some-next-2.page.now c.in-Some-next-2.slots.now (c.range-in-None.ensures.in_range tt)
    c.in-Some-next-2.ensures.steps)

pub returns-in-Some-next : goal.returns-in-Some-next
returns-in-Some-next g c = range_excluded c.args.pages.now c.requires c.in-Some.page c.args.after
    c.in-Some.is c.range.result c.next.new.self c.in-Some-next.page.now c.in-Some-next.slots.now
    (c.range.ensures.in_range tt) c.in-Some-next.ensures.steps c.first_on.ensures.counted
    (option_map (λ p. (p.0, p.1.now)) c.first_on.result) c.first_on.ensures.first

pub returns-in-Some-next-2 : goal.returns-in-Some-next-2
returns-in-Some-next-2 g c = range_all c.args.pages.now c.requires c.args.after c.in-None.is
    c.range-in-None.result c.next-in-None.new.self c.in-Some-next-2.page.now
    c.in-Some-next-2.slots.now
    (c.range-in-None.ensures.in_range tt) c.in-Some-next-2.ensures.steps
    c.first_on-in-Some-next-2.ensures.counted
    (option_map (λ p. (p.0, p.1.now)) c.first_on-in-Some-next-2.result)
    c.first_on-in-Some-next-2.ensures.first
