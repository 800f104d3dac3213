use Rattle.std.proofs.Common.{◌≡◌, ◌++◌, take}
use Rattle.std.specs.List.{flat_map}
use Rattle.tk_listing.specs.Lines.{item_line}
use Rattle.tk_listing.proofs.lines.put_items.Given as goal

abbrev pub invariant-loop-item : goal.invariant-loop-item
invariant-loop-item l =
    l.writer ≡ l.fn.writer ++ flat_map (item_line l.horizon) (take l.item-index l.items)
