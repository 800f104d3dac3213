use Rattle.std.proofs.Common.{◌∙◌, None}
use Rattle.tk_dots.proofs.MarkLaws.{put_marked, put_apart}
use Rattle.tk_dots.proofs.marks.MarkMap.mark.Goals as goal

pub invariant_of-self-2 : goal.invariant_of-self-2
invariant_of-self-2 g c = put_apart c.self.inside.pages c.self.inside.runs c.args.self.now
    c.self.view_is c.put.new.self c.args.dot None c.requires c.in_ok-put.ensures.ok c.self.invariant

pub returns-clause-ok : goal.returns-clause-ok
returns-clause-ok g c = c.settle_last.ensures
    ∙ put_marked c.self.inside.pages c.self.inside.runs c.args.self.now c.self.view_is
    c.put.new.self c.args.dot None c.requires c.in_ok-put.ensures.ok
