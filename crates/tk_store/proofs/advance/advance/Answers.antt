use Rattle.std.proofs.Common.{ap, arith, subst, sym, ◌∙◌}
use Rattle.std.specs.FinMap as sets
use Rattle.tk_vector.specs.VersionVector.{entry, raised}
use Rattle.tk_store.specs.Front.{IsFront}
use Rattle.tk_store.proofs.FrontLaws.{past_put, past_advanced}
use Rattle.tk_handle.proofs.TestLaws.{on_ok}
use Rattle.tk_store.proofs.advance.advance.Goals as goal

pub returns-then-serial-get-clause-ok : goal.returns-then-serial-get-clause-ok
returns-then-serial-get-clause-ok c =
    let at = c.get.ensures.value ∙ ap (entry c.args.front.now) c.region.ensures.value in
    λ slot. past_put c.args.table.now c.args.dot c.requires.free slot c.args.front.now
    c.requires.front (λ is. c.if-serial-get.true (omega (arith, is, at, c.serial.ensures.value)))

pub returns-clause-ok : goal.returns-clause-ok
returns-clause-ok c =
    let at = c.get.ensures.value ∙ ap (entry c.args.front.now) c.region.ensures.value in
    on_ok c.raise.result c.raise.ensures.ok
    (λ is slot. subst (IsFront (sets.insert c.args.table.now c.args.dot slot))
    (sym (is ∙ ap (λ r. raised c.args.front.now r c.run_end-end.result) c.region-2.ensures.value))
    (past_advanced c.args.table.now c.args.dot c.requires.free slot c.args.front.now
    c.run_end-end.result c.requires.front
    (omega (arith, at, c.serial.ensures.value, c.serial.ensures.range.0, c.if-serial-get.false))
    c.run_end-end.ensures.from c.run_end-end.ensures.held c.run_end-end.ensures.next))
