use Rattle.std.proofs.Common.{◌∙◌, sym, ap, is_some}
use Rattle.tk_dots.proofs.CellLaws.{get_here, seen_taken, some_counted, paged_less, paged_none}
use Rattle.tk_dots.proofs.dots.DotMap.take.Goals as goal

pub overflow_sub-self : goal.overflow_sub-self
overflow_sub-self g c = some_counted c.self.inside.pages c.take_in-taken.new.pages c.args.dot
    c.args.self.now c.self.view_is c.page_of.result c.place_of.result c.page_of.ensures
    c.place_of.ensures.value c.self.inside.len c.self.invariant.counted
    (ap is_some (sym c.take_in-taken.ensures.value) ∙ sym c.is_some.ensures ∙ c.if-is_some.true)

pub invariant_of-self : goal.invariant_of-self
invariant_of-self g c = paged_less c.self.inside.pages c.take_in-taken.new.pages c.args.dot
    c.args.self.now c.self.view_is c.page_of.result c.place_of.result c.page_of.ensures
    c.place_of.ensures.value c.self.inside.len c.self.invariant.counted
    c.take_in-taken.ensures.pages c.take_in-taken.ensures.cells
    (ap is_some (sym c.take_in-taken.ensures.value) ∙ sym c.is_some.ensures ∙ c.if-is_some.true)

pub invariant_of-self-else-is_some : goal.invariant_of-self-else-is_some
invariant_of-self-else-is_some g c = paged_none c.self.inside.pages c.take_in-taken.new.pages
    c.args.dot c.args.self.now c.self.view_is c.page_of.result c.place_of.result c.page_of.ensures
    c.place_of.ensures.value c.self.inside.len c.self.invariant.counted
    c.take_in-taken.ensures.pages c.take_in-taken.ensures.cells
    (ap is_some (sym c.take_in-taken.ensures.value) ∙ sym c.is_some.ensures ∙ c.if-is_some.false)

pub returns-then-is_some-clause-value : goal.returns-then-is_some-clause-value
returns-then-is_some-clause-value g c = c.take_in-taken.ensures.value
    ∙ get_here c.self.inside.pages c.take_in-taken.new.pages c.args.dot c.args.self.now
    c.self.view_is c.page_of.result c.place_of.result c.page_of.ensures c.place_of.ensures.value

pub returns-else-is_some-clause-value : goal.returns-else-is_some-clause-value
returns-else-is_some-clause-value g c = c.take_in-taken.ensures.value
    ∙ get_here c.self.inside.pages c.take_in-taken.new.pages c.args.dot c.args.self.now
    c.self.view_is c.page_of.result c.place_of.result c.page_of.ensures c.place_of.ensures.value

pub returns-then-is_some-clause-rest : goal.returns-then-is_some-clause-rest
returns-then-is_some-clause-rest g c = seen_taken c.self.inside.pages c.take_in-taken.new.pages
    c.args.dot c.args.self.now c.self.view_is c.page_of.result c.place_of.result c.page_of.ensures
    c.place_of.ensures.value c.take_in-taken.ensures.cells

pub returns-else-is_some-clause-rest : goal.returns-else-is_some-clause-rest
returns-else-is_some-clause-rest g c = seen_taken c.self.inside.pages c.take_in-taken.new.pages
    c.args.dot c.args.self.now c.self.view_is c.page_of.result c.place_of.result c.page_of.ensures
    c.place_of.ensures.value c.take_in-taken.ensures.cells
