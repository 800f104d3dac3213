use Rattle.std.proofs.Common.{◌∙◌, sym, Result, Ok, Err}
use Rattle.std.proofs.Common.{OnErr}
use Rattle.tk_dots.proofs.CellLaws.{seen_put, seen_same, paged_new, paged_over, paged_same}
use Rattle.tk_dots.proofs.dots.DotMap.put.Goals as goal

-- what holds in any case holds if the result is an error
err_of : {A E : Type 0} {P : Type 0} (r : Result A E) → P → OnErr r P
err_of (Ok a) p = tt
err_of (Err e) p = p

pub invariant_of-self : goal.invariant_of-self
invariant_of-self g c = paged_same c.self.inside.pages c.put_in.new.pages c.args.dot c.args.self.now
    c.self.view_is c.page_of.result c.place_of.result c.page_of.ensures c.place_of.ensures.value
    c.self.inside.len c.self.invariant.counted c.put_in.ensures.pages c.in_err-was.ensures.err

pub returns-in_err-was-clause-err : goal.returns-in_err-was-clause-err
returns-in_err-was-clause-err g c = err_of c.from_residual.result
    (seen_same c.self.inside.pages c.put_in.new.pages c.args.dot c.args.self.now c.self.view_is
    c.page_of.result c.place_of.result c.page_of.ensures c.place_of.ensures.value
    c.in_err-was.ensures.err)

pub invariant_of-self-then-not-was : goal.invariant_of-self-then-not-was
invariant_of-self-then-not-was g c = paged_new c.self.inside.pages c.put_in.new.pages c.args.dot
    c.args.self.now c.self.view_is c.page_of.result c.place_of.result c.page_of.ensures
    c.place_of.ensures.value c.self.inside.len c.self.invariant.counted c.put_in.ensures.pages
    c.args.value c.in_ok-was.ensures.cells (sym c.in_ok-was.ensures.was ∙ c.if-not-was.true)

pub invariant_of-self-else-not-was : goal.invariant_of-self-else-not-was
invariant_of-self-else-not-was g c = paged_over c.self.inside.pages c.put_in.new.pages c.args.dot
    c.args.self.now c.self.view_is c.page_of.result c.place_of.result c.page_of.ensures
    c.place_of.ensures.value c.self.inside.len c.self.invariant.counted c.put_in.ensures.pages
    c.args.value c.in_ok-was.ensures.cells (sym c.in_ok-was.ensures.was ∙ c.if-not-was.false)

pub returns-then-not-was-clause-ok : goal.returns-then-not-was-clause-ok
returns-then-not-was-clause-ok g c = seen_put c.self.inside.pages c.put_in.new.pages c.args.dot
    c.args.self.now c.self.view_is c.page_of.result c.place_of.result c.page_of.ensures
    c.place_of.ensures.value c.args.value c.in_ok-was.ensures.cells

pub returns-else-not-was-clause-ok : goal.returns-else-not-was-clause-ok
returns-else-not-was-clause-ok g c = seen_put c.self.inside.pages c.put_in.new.pages c.args.dot
    c.args.self.now c.self.view_is c.page_of.result c.place_of.result c.page_of.ensures
    c.place_of.ensures.value c.args.value c.in_ok-was.ensures.cells
