use Rattle.std.proofs.Common.{◌≡◌, take}
use Rattle.tk_bundle.specs.Versions.{newest_kind}
use Rattle.tk_bundle.specs.Page.{items_at}
use Rattle.tk_bundle.proofs.page.newest_at.Given as goal

abbrev pub invariant-loop-dot : goal.invariant-loop-dot
invariant-loop-dot l = l.newest ≡ newest_kind 0 (items_at l.store.slots (take l.dot-index l.dots))
