use Rattle.std.proofs.Common.{◌≡◌, ap, sym, refl, ◌∙◌, subst, Option, Some, option_map}
use Rattle.std.specs.FinMap as sets
use Rattle.tk_handle.specs.declared.dot.Dot.{Dot}
use Rattle.tk_fact.specs.declared.body.Body.{Body}
use Rattle.tk_store.specs.Slots.{Slot, Held, held_slot, without_fact}
use Rattle.tk_store.specs.Table.{KeptMap, IsTable, slot_of, slots_of}
use Rattle.tk_store.proofs.TableLaws.{at, table_taken, taken_slots, some_held, value_some}
use Rattle.tk_store.proofs.TableLaws.{taken_value, no_value_left, no_fact_left}
use Rattle.tk_store.proofs.table.Table.take.Goals as goal

pub overflow_sub-self : goal.overflow_sub-self
overflow_sub-self c =
    let kept : sets.get c.self.inside.kept c.args.dot ≡ Some (Some c.in-Some.fact) =
    value_some _ c.in-Some.fact (sym c.in-Some.ensures.value) in
    let here : sets.get c.args.self.now c.args.dot ≡ Some (Held c.in-Some.fact.value.1) =
    at c.self.inside.kept c.args.self.now c.self.view_is c.args.dot
    ∙ ap (option_map slot_of) kept in
    some_held c.self.inside.kept c.self.inside.held c.self.invariant c.args.self.now c.self.view_is
    c.take.new.self c.args.dot c.in-Some.fact.value.1 (ap held_slot here)

pub invariant_of-self : goal.invariant_of-self
invariant_of-self c =
    let kept : sets.get c.self.inside.kept c.args.dot ≡ Some (Some c.in-Some.fact) =
    value_some _ c.in-Some.fact (sym c.in-Some.ensures.value) in
    let here : sets.get c.args.self.now c.args.dot ≡ Some (Held c.in-Some.fact.value.1) =
    at c.self.inside.kept c.args.self.now c.self.view_is c.args.dot
    ∙ ap (option_map slot_of) kept in
    table_taken c.self.inside.kept c.self.inside.held c.self.invariant c.args.self.now
    c.self.view_is c.take.new.self c.args.dot c.in-Some.fact.value.1 (ap held_slot here)
    (taken_value c.self.inside.kept c.take.new.self c.args.dot c.in-Some.fact kept
    c.take.ensures.rest)

pub returns-in-Some-clause-fact : goal.returns-in-Some-clause-fact
returns-in-Some-clause-fact c =
    let kept : sets.get c.self.inside.kept c.args.dot ≡ Some (Some c.in-Some.fact) =
    value_some _ c.in-Some.fact (sym c.in-Some.ensures.value) in
    let here : sets.get c.args.self.now c.args.dot ≡ Some (Held c.in-Some.fact.value.1) =
    at c.self.inside.kept c.args.self.now c.self.view_is c.args.dot
    ∙ ap (option_map slot_of) kept in
    ap (λ (f : Dot × Body). Some f) c.into_inner.ensures
    ∙ ap (λ (d : Dot). Some (d, c.in-Some.fact.value.1))
    (c.self.invariant.home c.args.dot c.in-Some.fact kept)
    ∙ ap (λ (o : Option Slot). option_map (λ (b : Body). (c.args.dot, b)) (held_slot o)) (sym here)

pub returns-in-Some-clause-rest : goal.returns-in-Some-clause-rest
returns-in-Some-clause-rest c =
    let kept : sets.get c.self.inside.kept c.args.dot ≡ Some (Some c.in-Some.fact) =
    value_some _ c.in-Some.fact (sym c.in-Some.ensures.value) in
    let here : sets.get c.args.self.now c.args.dot ≡ Some (Held c.in-Some.fact.value.1) =
    at c.self.inside.kept c.args.self.now c.self.view_is c.args.dot
    ∙ ap (option_map slot_of) kept in
    taken_slots c.self.inside.kept c.args.self.now c.self.view_is c.take.new.self c.args.dot
    (taken_value c.self.inside.kept c.take.new.self c.args.dot c.in-Some.fact kept
    c.take.ensures.rest)
    ∙ sym (ap (without_fact c.args.self.now c.args.dot) here)

pub invariant_of-self-in-None : goal.invariant_of-self-in-None
invariant_of-self-in-None c = subst (λ (m : KeptMap). IsTable m c.self.inside.held)
    (sym (no_value_left c.self.inside.kept c.take.new.self c.args.dot
    (sets.get c.self.inside.kept c.args.dot) (sym c.in-None.ensures.value) c.take.ensures.rest))
    c.self.invariant

pub returns-in-None-clause-fact : goal.returns-in-None-clause-fact
returns-in-None-clause-fact c = (no_fact_left c.self.inside.kept c.args.self.now c.self.view_is
    c.args.dot (sets.get c.self.inside.kept c.args.dot) refl (sym c.in-None.ensures.value)).0

pub returns-in-None-clause-rest : goal.returns-in-None-clause-rest
returns-in-None-clause-rest c =
    ap slots_of
    (no_value_left c.self.inside.kept c.take.new.self c.args.dot
    (sets.get c.self.inside.kept c.args.dot) (sym c.in-None.ensures.value) c.take.ensures.rest)
    ∙ c.self.view_is
    ∙ (no_fact_left c.self.inside.kept c.args.self.now c.self.view_is c.args.dot
    (sets.get c.self.inside.kept c.args.dot) refl (sym c.in-None.ensures.value)).1
