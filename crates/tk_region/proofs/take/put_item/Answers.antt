use Rattle.std.proofs.Common.{sym, subst, ap, ◌∙◌}
use Rattle.tk_handle.specs.declared.dot.Dot.{Dot}
use Rattle.tk_store.specs.Slots.{Slot, Skipped}
use Rattle.tk_region.specs.Taking.{Puts}
use Rattle.tk_region.proofs.TakeLaws.{puts_fact, puts_mark, item_of_fact, item_of_mark}
use Rattle.tk_region.proofs.take.put_item.Goals as goal

pub returns-in-Some : goal.returns-in-Some
returns-in-Some c =
    subst (λ (i : Dot × Slot). Puts c.args.ledger.now i c.add.result c.add.new.self)
    (sym (item_of_fact c.args.item c.in-Some.fact (sym c.into_fact.ensures ∙ c.in-Some.is)))
    (puts_fact c.args.ledger.now c.add.new.self c.in-Some.fact c.add.result c.add.ensures)

pub returns-in-None : goal.returns-in-None
returns-in-None c =
    let is = ap (λ (d : Dot). (d, Skipped)) c.dot-dot.ensures
    ∙ sym (item_of_mark c.args.item (sym c.into_fact.ensures ∙ c.in-None.is)) in
    subst (λ (i : Dot × Slot). Puts c.args.ledger.now i c.skip.result c.skip.new.self) is
    (puts_mark c.args.ledger.now c.skip.new.self c.dot-dot.result c.skip.result
    c.skip.ensures.skips)
