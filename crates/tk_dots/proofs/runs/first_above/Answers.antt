use Rattle.std.proofs.Common.{subst, sym, Option, Some}
use Rattle.tk_handle.specs.declared.dot.Dot.{Dot}
use Rattle.tk_dots.specs.Runs.{IsFirstAbove}
use Rattle.tk_dots.proofs.RunWalkLaws.{first_all}
use Rattle.tk_dots.proofs.runs.first_above.Goals as goal

pub returns-in-Some-next-2 : goal.returns-in-Some-next-2
returns-in-Some-next-2 c =
    subst (λ (o : Option Dot). IsFirstAbove c.args.runs.now o (Some c.in-Some-next-2.first.now))
    (sym c.in-None.is)
    (first_all c.args.runs.now c.range-in-None.result c.next-in-None.new.self
    c.in-Some-next-2.first.now c.in-Some-next-2.field-0-1.now (c.range-in-None.ensures.in_range tt)
    c.in-Some-next-2.ensures.steps)
