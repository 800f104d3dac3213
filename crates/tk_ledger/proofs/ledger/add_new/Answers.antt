use Rattle.std.proofs.Common.{ap, sym, subst, ◌∙◌}
use Rattle.tk_store.specs.FactSet.{FactSet}
use Rattle.tk_store.specs.StoreFields.{held_facts}
use Rattle.tk_store.specs.Slots.{held_slot}
use Rattle.tk_store.proofs.SlotLaws.{get_held}
use Rattle.tk_ledger.specs.Index.{IsIndexed}
use Rattle.tk_ledger.proofs.ChangeLaws.{stored, stored_change, stored_back}
use Rattle.tk_ledger.proofs.StoringLaws.{back_again, free_adds}
use Rattle.tk_ledger.proofs.ledger.add_new.Goals as goal

pub follow-requires-clause-change : goal.follow-requires-clause-change
follow-requires-clause-change c =
    stored_change (held_facts c.args.store.now) (held_facts c.add.new.self) c.fact.inside.dot
    c.fact.inside.body c.change_of-change.result
    (stored (held_facts c.args.store.now) (held_facts c.add.new.self) c.args.fact c.fact.inside.dot
    c.fact.inside.body c.in-Ok.added c.fact.view_is
    (get_held c.args.store.now.slots c.args.fact.0 ∙ ap held_slot c.requires.free)
    (free_adds c.args.store.now c.add.new.self c.args.fact c.in-Ok.added c.requires.free
    c.in-Ok.ensures))
    c.change_of-change.ensures

pub follow-requires-clause-indexed : goal.follow-requires-clause-indexed
follow-requires-clause-indexed c =
    subst (λ (S : FactSet). IsIndexed S c.args.index.now)
    (sym (stored_back (held_facts c.args.store.now) (held_facts c.add.new.self) c.fact.inside.dot
    c.fact.inside.body
    (stored (held_facts c.args.store.now) (held_facts c.add.new.self) c.args.fact c.fact.inside.dot
    c.fact.inside.body c.in-Ok.added c.fact.view_is
    (get_held c.args.store.now.slots c.args.fact.0 ∙ ap held_slot c.requires.free)
    (free_adds c.args.store.now c.add.new.self c.args.fact c.in-Ok.added c.requires.free
    c.in-Ok.ensures))))
    c.requires.indexed

pub returns-in-Err-follow-clause-adds : goal.returns-in-Err-follow-clause-adds
returns-in-Err-follow-clause-adds c = (
  c.requires.free,
  back_again c.args.store.now c.add.new.self c.take_back.new.self c.args.fact c.fact.inside.dot
      c.fact.inside.body c.fact.view_is c.requires.free c.in-Ok.added c.in-Ok.ensures
      c.take_back.ensures.rest c.take_back.ensures.horizon,
)

pub returns-in-Err-follow-clause-indexed : goal.returns-in-Err-follow-clause-indexed
returns-in-Err-follow-clause-indexed c =
    let back = back_again c.args.store.now c.add.new.self c.take_back.new.self c.args.fact
    c.fact.inside.dot c.fact.inside.body c.fact.view_is c.requires.free c.in-Ok.added
    c.in-Ok.ensures c.take_back.ensures.rest c.take_back.ensures.horizon in
    let before = stored_back (held_facts c.args.store.now) (held_facts c.add.new.self)
    c.fact.inside.dot c.fact.inside.body
    (stored (held_facts c.args.store.now) (held_facts c.add.new.self) c.args.fact c.fact.inside.dot
    c.fact.inside.body c.in-Ok.added c.fact.view_is
    (get_held c.args.store.now.slots c.args.fact.0 ∙ ap held_slot c.requires.free)
    (free_adds c.args.store.now c.add.new.self c.args.fact c.in-Ok.added c.requires.free
    c.in-Ok.ensures)) in
    subst (λ (F : FactSet). IsIndexed F c.follow.new.index) (before ∙ sym (ap held_facts back))
    c.in-Err-follow.ensures.err
