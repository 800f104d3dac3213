use Rattle.tk_dots.proofs.CellLaws.{get_set, paged_set}
use Rattle.tk_dots.proofs.dots.DotMap.set.Goals as goal

pub invariant_of-self : goal.invariant_of-self
invariant_of-self g c = paged_set c.self.inside.pages c.set_in.new.pages c.args.dot c.args.self.now
    c.self.view_is c.page_of.result c.place_of.result c.page_of.ensures c.place_of.ensures.value
    c.self.inside.len c.self.invariant.counted c.set_in.ensures.pages c.args.value
    c.set_in.ensures.cells

pub returns : goal.returns
returns g c = get_set c.self.inside.pages c.set_in.new.pages c.args.dot c.args.self.now
    c.self.view_is c.page_of.result c.place_of.result c.page_of.ensures c.place_of.ensures.value
    c.args.value c.set_in.ensures.cells
