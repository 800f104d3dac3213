use Rattle.std.proofs.Common.{◌∙◌}
use Rattle.tk_dots.proofs.MarkLaws.{over_marked}
use Rattle.tk_dots.proofs.marks.MarkMap.skip.Goals as goal

pub returns : goal.returns
returns g c = c.settle.ensures
    ∙ over_marked c.self.inside.pages c.self.inside.runs c.args.self.now c.self.view_is
    c.set.new.self c.args.dot c.set.ensures c.requires
