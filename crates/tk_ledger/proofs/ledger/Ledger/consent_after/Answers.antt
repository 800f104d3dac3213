use Rattle.std.proofs.Common.{List, sym, ap, subst, ◌∙◌}
use Rattle.std.specs.BTreeSet.{keys_between}
use Rattle.std.specs.List.{filter_map}
use Rattle.std.specs.declared.ops.Bound.{Bound}
use Rattle.std.specs.declared.ops.Bound.TheVariants.{Included}
use Rattle.tk_store.specs.FactSet.{FactSet}
use Rattle.tk_store.specs.StoreFields.{held_facts}
use Rattle.tk_ledger.specs.Index.{consent_cmp, consent_start, consents_above, IsConsents}
use Rattle.tk_ledger.specs.SubjectWalk.{seen, consent_of, consents_of}
use Rattle.tk_ledger.specs.declared.consent_keys.ConsentKey.{ConsentKey}
use Rattle.tk_ledger.proofs.DotWalkLaws.{placed, walk_first, walk_on}
use Rattle.tk_ledger.proofs.SpanLaws.{span_forward}
use Rattle.tk_ledger.proofs.SubjectWalkLaws.{walk_consents}
use Rattle.tk_ledger.proofs.ledger.Ledger.consent_after.Goals as goal

pub range-key-items-requires : goal.range-key-items-requires
range-key-items-requires c = span_forward c.subject_digest-digest.result c.args.after
    c.consents_from-first.result c.last_consent-last.result c.consents_from-first.ensures.value
    c.last_consent-last.ensures c.consents_from-first.ensures.ranged

pub loop-key-init : goal.loop-key-init
loop-key-init c =
    ap (λ (ks : List ConsentKey). filter_map
    (seen (consent_of (held_facts c.args.self.now) c.args.subject.now))
    (placed (λ k. k.consent) ks))
    (c.into_iter-key-iterator.ensures.into_iter_gives ∙ c.range-key-items.ensures.between tt
    ∙ ap (λ (b : Bound ConsentKey).
    keys_between consent_cmp b (Included c.last_consent-last.result) c.self.inside.index.consents)
    c.consents_from-first.ensures.value
    ∙ ap (λ (k : ConsentKey).
    keys_between consent_cmp (consent_start c.subject_digest-digest.result c.args.after)
    (Included k) c.self.inside.index.consents) c.last_consent-last.ensures
    ∙ ap (λ s. consents_above c.self.inside.index.consents s c.args.after)
    c.subject_digest-digest.ensures)
    ∙ walk_consents (held_facts c.args.self.now) c.self.inside.index.consents
    (subst (λ (F : FactSet). IsConsents F c.self.inside.index.consents)
    (ap held_facts c.self.view_is) c.self.invariant.consents_are)
    c.range-key-items.ensures.ordered c.args.subject.now c.args.after

pub loop-key-preserved : goal.loop-key-preserved
loop-key-preserved c =
    walk_on (consents_of (held_facts c.args.self.now) c.args.subject.now)
    (consent_of (held_facts c.args.self.now) c.args.subject.now) c.args.after
    (c.in-Some.key.now.consent, c.in-Some.key.now) (placed (λ k. k.consent) c.next.new.self)
    (sym c.consent_of.ensures ∙ c.in_default.is)
    (ap (λ (ks : List ConsentKey). filter_map
    (seen (consent_of (held_facts c.args.self.now) c.args.subject.now))
    (placed (λ k. k.consent) ks)) (sym c.in-Some.ensures.steps)
    ∙ c.loop-key.invariant)

pub returns-in-Some-consent_of : goal.returns-in-Some-consent_of
returns-in-Some-consent_of c =
    walk_first (consents_of (held_facts c.args.self.now) c.args.subject.now)
    (consent_of (held_facts c.args.self.now) c.args.subject.now) c.args.after
    (c.in-Some.key.now.consent, c.in-Some.key.now) (placed (λ k. k.consent) c.next.new.self)
    c.in-Some-consent_of.view (sym c.consent_of.ensures ∙ c.in-Some-consent_of.is)
    (ap (λ (ks : List ConsentKey). filter_map
    (seen (consent_of (held_facts c.args.self.now) c.args.subject.now))
    (placed (λ k. k.consent) ks)) (sym c.in-Some.ensures.steps)
    ∙ c.loop-key.invariant)
