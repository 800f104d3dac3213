use Rattle.std.proofs.Common.{◌≡◌, ap, sym, ◌∙◌, Some}
use Rattle.std.specs.FinMap as sets
use Rattle.tk_handle.specs.declared.dot.Dot.{Dot}
use Rattle.tk_fact.specs.declared.body.Body.{Body}
use Rattle.tk_store.specs.Slots.{Held}
use Rattle.tk_store.proofs.TableLaws.{table_put, put_slots, inserted, free_there}
use Rattle.tk_store.proofs.table.Table.put.Goals as goal

pub put-requires : goal.put-requires
put-requires c =
    let at : c.fact.inside.dot ≡ c.args.fact.0 = ap (λ (f : Dot × Body). f.0) c.fact.view_is in
    free_there c.self.inside.kept c.args.self.now c.self.view_is c.fact.inside.dot
    (ap (sets.get c.args.self.now) at ∙ c.requires)

pub invariant_of-self-2 : goal.invariant_of-self-2
invariant_of-self-2 c =
    let at : c.fact.inside.dot ≡ c.args.fact.0 = ap (λ (f : Dot × Body). f.0) c.fact.view_is in
    table_put c.self.inside.kept c.self.inside.held c.self.invariant c.args.self.now c.self.view_is
    c.put.new.self c.fact.inside.dot c.in_ok-held.held
    (ap (sets.get c.args.self.now) at ∙ c.requires) c.in_ok-put.ensures.ok
    (ap (λ (f : Dot × Body). f.0) (c.in_ok-held.ensures.ok ∙ sym c.fact.view_is))

pub returns-clause-ok : goal.returns-clause-ok
returns-clause-ok c =
    put_slots c.self.inside.kept c.args.self.now c.self.view_is c.put.new.self c.fact.inside.dot
    (Some c.in_ok-held.held)
    (inserted c.self.inside.kept c.put.new.self c.fact.inside.dot (Some c.in_ok-held.held)
    c.in_ok-put.ensures.ok)
    ∙ ap (λ (d : Dot). sets.insert c.args.self.now d (Held c.in_ok-held.held.value.1))
    (ap (λ (f : Dot × Body). f.0) c.fact.view_is)
    ∙ ap (λ (b : Body). sets.insert c.args.self.now c.args.fact.0 (Held b))
    (ap (λ (f : Dot × Body). f.1) c.in_ok-held.ensures.ok)
