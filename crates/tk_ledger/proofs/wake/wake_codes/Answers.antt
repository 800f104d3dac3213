use Rattle.std.proofs.Common.{List, refl, sym, ap, subst, ◌∙◌}
use Rattle.std.specs.BTreeSet.{keys_between}
use Rattle.std.specs.FinMap as map
use Rattle.std.specs.declared.ops.Bound.TheVariants.{Included}
use Rattle.tk_family.specs.Dots.{has}
use Rattle.tk_store.specs.StoreFields.{held_facts}
use Rattle.tk_handle.specs.Dot.{least_dot}
use Rattle.tk_ledger.specs.Index.{Wakes}
use Rattle.tk_ledger.specs.SubjectTables.{code_cmp, code_key, dots_of}
use Rattle.tk_ledger.specs.declared.subject_keys.CodeKey.{CodeKey}
use Rattle.tk_ledger.proofs.SubjectKeyLaws.{codes_forward}
use Rattle.tk_ledger.proofs.WakeLaws.{wakes_none, wakes_rest}
use Rattle.tk_ledger.proofs.wake.wake_codes.Goals as goal

pub range-key-items-requires : goal.range-key-items-requires
range-key-items-requires c = codes_forward c.args.prefix c.args.first c.args.last
    c.code_span-first.result.0 c.code_span-first.result.1 c.requires.forward
    c.code_span-first.ensures.first c.code_span-first.ensures.last

pub loop-key-init : goal.loop-key-init
loop-key-init c = (
  refl,
  λ z. subst (λ (ks : List CodeKey).
      Wakes (held_facts c.args.facts.now) c.args.forest.now (has (dots_of ks)) z)
      (c.into_iter-key-iterator.ensures.into_iter_gives
      ∙ c.range-key-items.ensures.between tt
      ∙ ap (λ (e : CodeKey).
      keys_between code_cmp (Included e) (Included c.code_span-first.result.1) c.args.codes.now)
      c.code_span-first.ensures.first
      ∙ ap (λ (e : CodeKey).
      keys_between code_cmp (Included (code_key c.args.prefix c.args.first least_dot))
      (Included e) c.args.codes.now) c.code_span-first.ensures.last),
)

pub wake-requires-clause-links : goal.wake-requires-clause-links
wake-requires-clause-links c =
    λ q. ap (λ s. map.get s q) c.loop-key.invariant.0 ∙ c.requires.links q

pub loop-key-preserved : goal.loop-key-preserved
loop-key-preserved c = (
  c.wake.ensures.links ∙ c.loop-key.invariant.0,
  λ z rest. c.loop-key.invariant.1 z
      (subst (λ (ks : List CodeKey).
      Wakes (held_facts c.args.facts.now) c.loop-key.forest (has (dots_of ks)) z)
      (sym c.in-Some.ensures.steps)
      (wakes_rest (held_facts c.args.facts.now) c.loop-key.forest c.wake.new.forest z
      c.in-Some.key.now c.next.new.self c.wake.ensures rest)),
)

pub returns : goal.returns
returns c = c.loop-key.invariant.1 c.loop-key.forest
    (subst (λ (ks : List CodeKey).
    Wakes (held_facts c.args.facts.now) c.loop-key.forest (has (dots_of ks)) c.loop-key.forest)
    (sym c.in-None.ensures.steps.0)
    (wakes_none (held_facts c.args.facts.now) c.loop-key.forest))
