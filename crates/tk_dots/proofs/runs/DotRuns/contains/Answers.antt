use Rattle.std.proofs.Common.{◌∙◌, ap}
use Rattle.std.specs.FinSet as set
use Rattle.tk_dots.specs.Runs.{DotSet}
use Rattle.tk_dots.proofs.RunLaws.{below_test, none_test}
use Rattle.tk_dots.proofs.runs.DotRuns.contains.Goals as goal

pub returns-in-Some : goal.returns-in-Some
returns-in-Some c =
    below_test c.self.inside.runs c.self.invariant c.args.dot (c.in-Some.field-0-0, c.in-Some.last)
    c.in-Some.ensures c.serial.result c.serial.ensures.value
    ∙ ap (λ (s : DotSet). set.contains s c.args.dot) c.self.view_is

pub returns-in-None : goal.returns-in-None
returns-in-None c =
    none_test c.self.inside.runs c.self.invariant c.args.dot c.in-None.ensures
    ∙ ap (λ (s : DotSet). set.contains s c.args.dot) c.self.view_is
