use Rattle.std.proofs.Common.{◌≡◌, ap, sym, subst, ◌∙◌, is_some, Some}
use Rattle.std.specs.FinMap as sets
use Rattle.tk_store.specs.Slots.{Slots, Skipped}
use Rattle.tk_store.specs.declared.slot.SlotRef.{SlotRef}
use Rattle.tk_store.specs.SlotShown.{shown_slot}
use Rattle.tk_store.specs.Skipping.{MayGo}
use Rattle.tk_store.specs.StoreFields.{StoreFields, IsKept}
use Rattle.tk_store.proofs.FrontLaws.{kept_skipped}
use Rattle.tk_store.proofs.SlotOrderLaws.{skip_again}
use Rattle.tk_store.proofs.store.FactStore.skip.Goals as goal

pub invariant_of-self : goal.invariant_of-self
invariant_of-self c = subst (λ (S : Slots). IsKept S c.self.inside.front) (sym c.skip.ensures)
    (kept_skipped c.self.inside.facts c.self.inside.front c.args.dot c.self.invariant
    (ap is_some c.in-Some-Held.ensures.0))

pub returns-in-Some-Skipped-clause-skips : goal.returns-in-Some-Skipped-clause-skips
returns-in-Some-Skipped-clause-skips c =
    let here : sets.get c.args.self.now.slots c.args.dot ≡ Some Skipped =
    sym (ap (λ (P : StoreFields). sets.get P.slots c.args.dot) c.self.view_is)
    ∙ c.in-Some-Skipped.ensures.0
    ∙ ap (λ (r : SlotRef). Some (shown_slot r)) c.in-Some-Skipped.field-0-is in
    (subst MayGo (sym here) tt, skip_again c.args.self.now c.args.dot here)
