use Rattle.std.proofs.Common.{◌∙◌, refl, None, Some}
use Rattle.tk_store.specs.Walk.{above}
use Rattle.tk_store.specs.SlotShown.{shown_slot}
use Rattle.tk_store.proofs.SlotJoiningLaws.{joins_start, joins_passes, joins_next, joins_end}
use Rattle.tk_store.proofs.WalkLaws.{above_none}
use Rattle.tk_store.proofs.store.FactStore.take_all.Goals as goal

pub slots-init : goal.slots-init
slots-init c = record {
  joins = joins_start c.args.self.now.slots c.args.other.now.slots
      (above c.args.other.now.slots None) (above_none c.args.other.now.slots) c.requires;
  horizon = refl;
}

pub returns-clause-ok : goal.returns-clause-ok
returns-clause-ok c = joins_end c.args.self.now.slots c.args.other.now.slots c.slots.self.slots
    (above c.args.other.now.slots c.slots.place) c.in_default.ensures c.slots.invariant.joins

pub take-requires-clause-passes : goal.take-requires-clause-passes
take-requires-clause-passes c = joins_passes c.args.self.now.slots c.args.other.now.slots
    c.slots.self.slots (above c.args.other.now.slots c.slots.place)
    (c.in-Some.next.0, shown_slot c.in-Some.next.1)
    (above c.args.other.now.slots (Some c.in-Some.next.0)) c.in-Some.ensures.0
    c.slots.invariant.joins c.known.ensures

pub slots-preserved : goal.slots-preserved
slots-preserved c = record {
  joins = joins_next c.args.self.now.slots c.args.other.now.slots c.slots.self.slots
      c.take.new.self.slots c.requires (above c.args.other.now.slots c.slots.place)
      (c.in-Some.next.0, shown_slot c.in-Some.next.1)
      (above c.args.other.now.slots (Some c.in-Some.next.0)) c.in-Some.ensures.0
      c.slots.invariant.joins c.in_default-take.ensures.ok;
  horizon = c.take.ensures.horizon ∙ c.slots.invariant.horizon;
}
