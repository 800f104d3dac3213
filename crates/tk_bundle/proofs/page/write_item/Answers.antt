use Rattle.std.proofs.Common.{Some, ap, ◌∙◌}
use Rattle.tk_store.specs.SlotShown.{shown_slot}
use Rattle.tk_bundle.proofs.PageLaws.{held_passes}
use Rattle.tk_bundle.proofs.page.write_item.Goals as goal

pub known-requires-in-Some-Held : goal.known-requires-in-Some-Held
known-requires-in-Some-Held c =
    held_passes c.args.store.now c.args.dot c.in-Some-Held.fact.now.1 c.known.ensures
    (c.in-Some-Held.ensures.0 ∙ ap (λ shown. Some (shown_slot shown)) c.in-Some-Held.field-0-is)
