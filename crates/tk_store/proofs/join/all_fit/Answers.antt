use Rattle.std.proofs.Common.{refl, None}
use Rattle.tk_store.specs.Walk.{above}
use Rattle.tk_store.proofs.SlotJoiningLaws.{compared_start, compared_all}
use Rattle.tk_store.proofs.WalkLaws.{above_none}
use Rattle.tk_store.proofs.join.all_fit.Goals as goal

pub slots-init : goal.slots-init
slots-init c = compared_start c.args.table.now c.args.other.now (above c.args.other.now None)
    (above_none c.args.other.now)

pub returns : goal.returns
returns c = (
  λ h.
      compared_all c.args.table.now c.args.other.now (above c.args.other.now c.slots.place)
      c.in_default.ensures c.slots.invariant,
  λ agree.
      refl,
)
