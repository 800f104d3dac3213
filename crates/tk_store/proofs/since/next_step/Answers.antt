use Rattle.std.proofs.Common.{ap, List, slice_get}
use Rattle.tk_handle.specs.declared.dot.Dot.{Dot}
use Rattle.tk_store.specs.Slots.{Slot}
use Rattle.tk_store.specs.SlotShown.{shown_slot}
use Rattle.tk_store.proofs.SeekingLaws.{seeks, seeks_none}
use Rattle.tk_store.proofs.since.next_step.Goals as goal

pub returns-in-Some : goal.returns-in-Some
returns-in-Some c = seeks c.args.table.now c.args.vector.now c.args.after
    (c.in-Some.next.0, shown_slot c.in-Some.next.1)
    (ap (λ (l : List (Dot × Slot)). slice_get l 0) c.in-Some.ensures.0) c.step_at.result.at
    c.step_at.result.is_beyond c.step_at.ensures

pub returns-in-None : goal.returns-in-None
returns-in-None c = seeks_none c.args.table.now c.args.vector.now c.args.after
    (ap (λ (l : List (Dot × Slot)). slice_get l 0) c.in-None.ensures)
