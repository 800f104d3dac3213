use Rattle.std.proofs.Common.{◌≡◌, drop}
use Rattle.tk_bundle.specs.Versions.{newest_kind}
use Rattle.tk_bundle.proofs.version.newest_kind.Given as goal

abbrev pub invariant-loop-item : goal.invariant-loop-item
invariant-loop-item l = newest_kind l.newest (drop l.item-index l.items) ≡ newest_kind 0 l.items
