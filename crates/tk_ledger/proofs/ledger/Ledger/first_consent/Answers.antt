use Rattle.std.proofs.Common.{sym, ap, subst, ◌∙◌, Some, None}
use Rattle.std.specs.Option.{option_copied}
use Rattle.tk_store.specs.FactSet.{FactSet}
use Rattle.tk_store.specs.StoreFields.{held_facts}
use Rattle.tk_ledger.specs.Index.{IsConsents}
use Rattle.tk_ledger.proofs.SpanLaws.{first_found, first_is}
use Rattle.tk_ledger.proofs.ledger.Ledger.first_consent.Goals as goal

pub returns-in-Some-clause-least : goal.returns-in-Some-clause-least
returns-in-Some-clause-least c = first_found (held_facts c.args.self.now)
    c.self.inside.index.consents c.args.client c.args.subject.now c.args.scope.now
    (Some c.in-Some.key.now)
    (subst (λ (F : FactSet). IsConsents F c.self.inside.index.consents)
    (ap held_facts c.self.view_is) c.self.invariant.consents_are)
    c.first_key.ensures.sorted (sym c.first_key.ensures.first ∙ ap option_copied c.in-Some.is)

pub returns-in-None-clause-least : goal.returns-in-None-clause-least
returns-in-None-clause-least c = first_found (held_facts c.args.self.now)
    c.self.inside.index.consents c.args.client c.args.subject.now c.args.scope.now None
    (subst (λ (F : FactSet). IsConsents F c.self.inside.index.consents)
    (ap held_facts c.self.view_is) c.self.invariant.consents_are)
    c.first_key.ensures.sorted (sym c.first_key.ensures.first ∙ ap option_copied c.in-None.is)

pub returns-in-Some-clause-value : goal.returns-in-Some-clause-value
returns-in-Some-clause-value c = first_is (held_facts c.args.self.now) c.args.client
    c.args.subject.now c.args.scope.now (Some c.in-Some.key.now.consent)
    (returns-in-Some-clause-least c)

pub returns-in-None-clause-value : goal.returns-in-None-clause-value
returns-in-None-clause-value c = first_is (held_facts c.args.self.now) c.args.client
    c.args.subject.now c.args.scope.now None (returns-in-None-clause-least c)
