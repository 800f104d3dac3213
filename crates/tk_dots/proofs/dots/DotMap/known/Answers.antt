use Rattle.tk_dots.proofs.NextLaws.{dots_high}
use Rattle.tk_dots.proofs.dots.DotMap.known.Goals as goal

pub returns : goal.returns
returns g c = dots_high c.self.inside.pages c.args.self.now c.self.view_is c.self.invariant.pages
