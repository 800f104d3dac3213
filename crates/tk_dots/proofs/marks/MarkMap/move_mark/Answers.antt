use Rattle.tk_dots.proofs.MarkLaws.{shift_marked, shift_apart}
use Rattle.tk_dots.proofs.marks.MarkMap.move_mark.Goals as goal

pub invariant_of-self : goal.invariant_of-self
invariant_of-self g c = shift_apart c.self.inside.pages c.self.inside.runs c.args.self.now
    c.self.view_is c.take.new.self c.add.new.self c.args.dot
    (c.is_mark.ensures c.if-not-is_mark.false) c.in-Ok.ensures.ok c.take.ensures.rest
    c.self.invariant

pub returns-in-Ok : goal.returns-in-Ok
returns-in-Ok g c = shift_marked c.self.inside.pages c.self.inside.runs c.args.self.now
    c.self.view_is c.take.new.self c.add.new.self c.args.dot
    (c.is_mark.ensures c.if-not-is_mark.false) c.in-Ok.ensures.ok c.take.ensures.rest
    c.self.invariant
