use Rattle.std.proofs.Common.{subst, slice_get}
use Rattle.tk_store.specs.declared.slot.SlotRef.{SlotRef}
use Rattle.tk_store.specs.Slots.{held_in}
use Rattle.tk_store.specs.Walk.{above}
use Rattle.tk_store.proofs.WalkLaws.{IsFirstHeld, step_held, none_held}
use Rattle.tk_store.proofs.walk.next_fact.Goals as goal

pub returns-in-Held : goal.returns-in-Held
returns-in-Held c = subst (λ (r : SlotRef).
    IsFirstHeld r (slice_get (above (held_in c.args.table.now) c.args.after) 0)) c.in-Held.is
    (step_held c.args.table.now c.marks.place c.args.after c.in-Some.next.0 c.in-Some.next.1
    c.marks.invariant c.in-Some.ensures.0)

pub returns : goal.returns
returns c =
    none_held c.args.table.now c.marks.place c.args.after c.marks.invariant c.in_default.ensures
