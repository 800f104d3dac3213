use Rattle.std.proofs.Common.{◌≡◌, ◌++◌, take}
use Rattle.std.specs.List.{AllByRecursion, flat_map}
use Rattle.tk_bundle.specs.Items.{item}
use Rattle.tk_bundle.specs.Page.{items_at}
use Rattle.tk_bundle.proofs.page.write_items.Given as goal

abbrev pub invariant-loop-dot : goal.invariant-loop-dot
invariant-loop-dot l = record {
  written : l.writer
      ≡ l.fn.writer ++ flat_map item.spell (items_at l.store.slots (take l.dot-index l.dots));
  fits : AllByRecursion item.Fits (items_at l.store.slots (take l.dot-index l.dots));
}
