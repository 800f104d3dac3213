use Rattle.std.proofs.Common.{None, Some}
use Rattle.tk_dots.proofs.MarkWalkLaws.{passes_is, passes_copied}
use Rattle.tk_dots.proofs.marks.MarkMap.next_value.Goals as goal

pub returns-in-Some : goal.returns-in-Some
returns-in-Some g c = passes_copied c.args.self.now c.args.after c.in-Some.next.0
    c.in-Some.next.1.now _ c.as_ref.ensures.value
    (passes_is c.self.inside.pages c.self.inside.runs c.args.self.now c.self.view_is
    c.self.invariant c.args.after (Some (c.in-Some.next.0, c.in-Some.next.1.now)) c.in-Some.ensures)

pub returns-in-None : goal.returns-in-None
returns-in-None g c = passes_is c.self.inside.pages c.self.inside.runs c.args.self.now
    c.self.view_is c.self.invariant c.args.after None c.in-None.ensures
