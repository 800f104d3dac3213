use Rattle.std.proofs.Common.{Some, Result, Ok, Err, OnOk, ap, ◌∙◌}
use Rattle.tk_store.specs.SlotShown.{shown_slot}
use Rattle.tk_bundle.proofs.PageLaws.{held_passes}
use Rattle.tk_bundle.proofs.RunPageLaws.{skipped_fits}
use Rattle.tk_bundle.proofs.run_page.put_known.Goals as goal

pub known-requires-in-Some-Held : goal.known-requires-in-Some-Held
known-requires-in-Some-Held c =
    held_passes c.args.store.now c.args.dot c.in-Some-Held.fact.now.1 c.known.ensures
    (c.in-Some-Held.ensures.0 ∙ ap (λ shown. Some (shown_slot shown)) c.in-Some-Held.field-0-is)

-- a fact holds if a result is Ok
on_ok : {X E P : Type 0} (r : Result X E) → P → OnOk r P
on_ok (Ok x) h = h
on_ok (Err e) h = tt

pub returns-in-Some-Skipped-clause-fits : goal.returns-in-Some-Skipped-clause-fits
returns-in-Some-Skipped-clause-fits c = on_ok c.put_mark.result
    (skipped_fits c.args.store.now.slots c.args.dot (c.in-Some-Skipped.ensures.0
    ∙ ap (λ shown. Some (shown_slot shown)) c.in-Some-Skipped.field-0-is) c.known-2.ensures)
