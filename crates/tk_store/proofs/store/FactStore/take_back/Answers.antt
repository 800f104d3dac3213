use Rattle.std.proofs.Common.{◌≡◌, false, refl, ap, sym, subst, ◌∙◌, is_some, Option, Some, None}
use Rattle.std.proofs.Common.{IsSome, option_map}
use Rattle.std.proofs.lemmas.Bool.{true≢false}
use Rattle.std.specs.FinMap as sets
use Rattle.tk_handle.specs.declared.dot.Dot.{Dot}
use Rattle.tk_fact.specs.declared.body.Body.{Body}
use Rattle.tk_store.specs.Slots.{Slots, held_slot}
use Rattle.tk_store.specs.StoreFields.{StoreFields, held_facts, IsKept}
use Rattle.tk_store.proofs.FrontLaws.{kept_without, without_none}
use Rattle.tk_store.proofs.SlotLaws.{get_held}
use Rattle.tk_store.proofs.store.FactStore.take_back.Goals as goal

-- a body with its dot is there exactly if the body is
some_of : (o : Option Body) (d : Dot)
    → is_some {T = Dot × Body} (option_map (λ (b : Body). (d, b)) o) ≡ is_some o
some_of None d = refl
some_of (Some b) d = refl

-- an option that is not Some is None
none_of : (o : Option Body) → is_some o ≡ false → o ≡ None
none_of None h = refl
none_of (Some b) h = absurd (true≢false h)

pub invariant_of-self : goal.invariant_of-self
invariant_of-self c =
    let some : IsSome (held_slot (sets.get c.self.inside.facts c.args.dot)) =
    sym (some_of _ c.args.dot) ∙ sym (ap is_some c.take-taken.ensures.fact) ∙ sym c.is_some.ensures
    ∙ c.if-is_some.true in
    rw (c.take-taken.ensures.rest, c.lower.ensures, c.region.ensures.value, c.serial.ensures.value)
    (kept_without c.self.inside.facts c.self.inside.front c.args.dot
    (sets.get c.self.inside.facts c.args.dot) refl some c.self.invariant c.serial.ensures.range.0)

pub invariant_of-self-else-is_some : goal.invariant_of-self-else-is_some
invariant_of-self-else-is_some c =
    let none : held_slot (sets.get c.self.inside.facts c.args.dot) ≡ None =
    none_of _
    (sym (some_of _ c.args.dot) ∙ sym (ap is_some c.take-taken.ensures.fact) ∙ sym c.is_some.ensures
    ∙ c.if-is_some.false) in
    subst (λ (S : Slots). IsKept S c.self.inside.front)
    (sym (c.take-taken.ensures.rest
    ∙ without_none c.self.inside.facts c.args.dot (sets.get c.self.inside.facts c.args.dot) refl
    none)) c.self.invariant

pub returns-then-is_some-clause-fact : goal.returns-then-is_some-clause-fact
returns-then-is_some-clause-fact c =
    c.take-taken.ensures.fact ∙ ap (option_map (λ (b : Body). (c.args.dot, b)))
    (sym (get_held c.self.inside.facts c.args.dot)
    ∙ ap (λ (P : StoreFields). sets.get (held_facts P) c.args.dot) c.self.view_is)

pub returns-else-is_some-clause-fact : goal.returns-else-is_some-clause-fact
returns-else-is_some-clause-fact c =
    c.take-taken.ensures.fact ∙ ap (option_map (λ (b : Body). (c.args.dot, b)))
    (sym (get_held c.self.inside.facts c.args.dot)
    ∙ ap (λ (P : StoreFields). sets.get (held_facts P) c.args.dot) c.self.view_is)
