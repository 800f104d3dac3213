use Rattle.std.proofs.Common.{◌∙◌, ap, sym, Some}
use Rattle.tk_dots.proofs.MarkLaws.{page_is, at_run, at_page}
use Rattle.tk_dots.proofs.marks.MarkMap.get.Goals as goal

pub returns-in-Some : goal.returns-in-Some
returns-in-Some g c =
    ap (λ o. Some o) c.as_ref.ensures.value
    ∙ sym (page_is c.self.inside.pages c.self.inside.runs c.args.self.now c.self.view_is
    c.self.invariant c.args.dot c.in-Some.place.now (sym c.in-Some.ensures))

pub returns-then-contains : goal.returns-then-contains
returns-then-contains g c = sym (at_run c.self.inside.pages c.self.inside.runs c.args.self.now
    c.self.view_is c.args.dot (sym c.contains.ensures ∙ c.if-contains.true))

pub returns-else-contains : goal.returns-else-contains
returns-else-contains g c = c.in-None.ensures
    ∙ sym (at_page c.self.inside.pages c.self.inside.runs c.args.self.now c.self.view_is c.args.dot
    (sym c.contains.ensures ∙ c.if-contains.false))
