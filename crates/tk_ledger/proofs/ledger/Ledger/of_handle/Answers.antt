use Rattle.std.proofs.Common.{Some, sym, ap, subst, ◌∙◌}
use Rattle.std.specs.FinMap as map
use Rattle.tk_handle.specs.declared.dot.Dot.{Dot}
use Rattle.tk_store.specs.SlotShown.{HasDot, shown_slot}
use Rattle.tk_store.specs.Slots.{held_slot}
use Rattle.tk_store.specs.declared.slot.SlotRef.{SlotRef}
use Rattle.tk_store.specs.StoreFields.{held_facts}
use Rattle.tk_store.proofs.SlotLaws.{get_held}
use Rattle.tk_ledger.proofs.HereLaws.{here_unknown}
use Rattle.tk_ledger.proofs.ledger.Ledger.of_handle.Goals as goal

pub of_fact-requires-clause-held : goal.of_fact-requires-clause-held
of_fact-requires-clause-held c =
    ap (λ (d : Dot). map.get (held_facts c.args.self.now) d)
    (subst (HasDot c.args.handle.now.id.dot) c.in-Some-Held.field-0-is
    c.in-Some-Held.ensures.value.1)
    ∙ get_held c.args.self.now.slots c.args.handle.now.id.dot
    ∙ ap held_slot
    (c.in-Some-Held.ensures.value.0
    ∙ ap (λ (r : SlotRef). Some (shown_slot r)) c.in-Some-Held.field-0-is)

pub returns-in-None-clause-value : goal.returns-in-None-clause-value
returns-in-None-clause-value c =
    sym (here_unknown c.args.self.now c.args.now c.args.handle.now c.in-None.ensures.value)
