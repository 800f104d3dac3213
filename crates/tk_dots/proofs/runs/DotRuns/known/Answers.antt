use Rattle.std.proofs.Common.{◌∙◌, ap}
use Rattle.std.specs.FinSet as set
use Rattle.tk_dots.specs.Runs.{DotSet}
use Rattle.tk_dots.proofs.RunLaws.{dots_high}
use Rattle.tk_dots.proofs.runs.DotRuns.known.Goals as goal

pub returns : goal.returns
returns c = λ d h. dots_high c.self.inside.runs c.self.invariant d
    (ap (λ (s : DotSet). set.contains s d) c.self.view_is ∙ h)
