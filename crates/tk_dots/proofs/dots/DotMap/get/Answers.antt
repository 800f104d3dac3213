use Rattle.std.proofs.Common.{◌∙◌}
use Rattle.tk_dots.proofs.CellLaws.{get_here}
use Rattle.tk_dots.proofs.dots.DotMap.get.Goals as goal

pub returns : goal.returns
returns g c = c.get_in.ensures
    ∙ get_here c.self.inside.pages c.self.inside.pages c.args.dot c.args.self.now c.self.view_is
    c.page_of.result c.place_of.result c.page_of.ensures c.place_of.ensures.value
