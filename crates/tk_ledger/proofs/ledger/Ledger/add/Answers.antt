use Rattle.std.proofs.Common.{◌≡◌, true, ap, sym, subst, ◌∙◌, is_some}
use Rattle.std.specs.FinMap as map
use Rattle.tk_handle.specs.declared.dot.Dot.{Dot}
use Rattle.tk_fact.specs.declared.body.Body.{Body}
use Rattle.tk_store.specs.StoreFields.{StoreFields, held_facts}
use Rattle.tk_ledger.specs.Index.{IsIndexed}
use Rattle.tk_ledger.proofs.StoringLaws.{known_kept, shown_known}
use Rattle.tk_ledger.proofs.ledger.Ledger.add.Goals as goal

pub invariant_of-self : goal.invariant_of-self
invariant_of-self c =
    let at : c.fact.inside.dot ≡ c.args.fact.0 = ap (λ (f : Dot × Body). f.0) c.fact.view_is in
    let known : is_some (map.get c.self.inside.store.slots c.args.fact.0) ≡ true =
    subst (λ (d : Dot). is_some (map.get c.self.inside.store.slots d) ≡ true) at
    (shown_known c.fact.inside.dot c.slot.result
    (map.get c.self.inside.store.slots c.fact.inside.dot) c.slot.ensures
    (sym c.is_some.ensures ∙ c.if-is_some.true)) in
    subst (λ (P : StoreFields). IsIndexed (held_facts P) c.self.inside.index)
    (sym (known_kept c.self.inside.store c.add.new.self c.args.fact c.add.result known
    c.add.ensures)) c.self.invariant
