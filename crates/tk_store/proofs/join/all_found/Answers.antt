use Rattle.std.proofs.Common.{refl, None}
use Rattle.tk_store.specs.Walk.{above}
use Rattle.tk_store.proofs.SlotJoiningLaws.{sought_start, sought_all}
use Rattle.tk_store.proofs.WalkLaws.{above_none}
use Rattle.tk_store.proofs.join.all_found.Goals as goal

pub slots-init : goal.slots-init
slots-init c = sought_start c.args.table.now c.args.other.now (above c.args.other.now None)
    (above_none c.args.other.now)

pub returns : goal.returns
returns c = (
  λ h.
      sought_all c.args.table.now c.args.other.now (above c.args.other.now c.slots.place)
      c.in_default.ensures c.slots.invariant,
  λ agree.
      refl,
)
