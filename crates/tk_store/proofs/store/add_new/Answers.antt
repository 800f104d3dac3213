use Rattle.std.proofs.Common.{◌≡◌, ap, subst, sym, ◌∙◌}
use Rattle.std.specs.FinMap as sets
use Rattle.tk_handle.specs.declared.dot.Dot.{Dot}
use Rattle.tk_fact.specs.declared.body.Body.{Body}
use Rattle.tk_store.specs.Front.{IsFront}
use Rattle.tk_store.specs.Slots.{Slots, Held}
use Rattle.tk_store.specs.StoreFields.{IsKept}
use Rattle.tk_store.proofs.FrontLaws.{kept_new, past_lowered}
use Rattle.tk_store.proofs.store.add_new.Goals as goal

pub advance-requires-clause-free : goal.advance-requires-clause-free
advance-requires-clause-free c =
    ap (λ (f : Dot × Body). sets.get c.args.facts.now f.0) c.fact.view_is ∙ c.requires.free

pub advance-requires-clause-front : goal.advance-requires-clause-front
advance-requires-clause-front c = c.requires.kept.front_is

pub returns-in-Err-clause-kept : goal.returns-in-Err-clause-kept
returns-in-Err-clause-kept c =
    subst (IsKept c.args.facts.now) (sym c.in-Err.ensures.err) c.requires.kept

pub returns-in-Ok-clause-kept : goal.returns-in-Ok-clause-kept
returns-in-Ok-clause-kept c =
    let at : c.fact.inside.dot ≡ c.args.fact.0 = ap (λ (f : Dot × Body). f.0) c.fact.view_is in
    kept_new c.args.facts.now c.put.new.self c.args.front.now c.advance.new.front c.args.fact.0
    c.args.fact.1 c.requires.kept c.requires.passes c.in-Ok.ensures.ok
    (subst (λ (S : Slots). IsFront S c.advance.new.front)
    (ap (λ (x : Dot). sets.insert c.args.facts.now x (Held c.args.fact.1)) at
    ∙ sym c.in-Ok.ensures.ok) (c.in_default.ensures.ok (Held c.args.fact.1)))

pub returns-in-Err-put-clause-kept : goal.returns-in-Err-put-clause-kept
returns-in-Err-put-clause-kept c =
    let free =
    ap (λ (f : Dot × Body). sets.get c.args.facts.now f.0) c.fact.view_is ∙ c.requires.free in
    rw (c.in-Err-put.ensures.err, c.lower.ensures, c.region.ensures.value, c.serial.ensures.value)
    (record {
      sound = c.requires.kept.sound;
      front_is = past_lowered c.args.facts.now c.fact.inside.dot free
          (Held c.args.fact.1) c.advance.new.front (c.in_default.ensures.ok (Held c.args.fact.1))
          c.serial.ensures.range.0;
    })
