use Rattle.std.proofs.Common.{sym, ap, ◌∙◌}
use Rattle.tk_store.specs.StoreFields.{held_facts}
use Rattle.tk_ledger.specs.Retention.{may_skip}
use Rattle.tk_ledger.proofs.SlicePassLaws.{goes_over, goes_fully}
use Rattle.tk_ledger.proofs.slices.goes.Goals as goal

pub returns-else-names_skipped : goal.returns-else-names_skipped
returns-else-names_skipped c =
    let tested = c.may_skip.ensures
    ∙ ap (λ h. may_skip (held_facts c.args.facts.now) h c.args.fact.now) c.horizon.ensures in (
      λ over. goes_over c.args.facts.now c.args.fact.now.0 c.args.fact.now.1 c.requires.held
          (sym tested ∙ over),
      λ go. tested
          ∙ goes_fully c.args.facts.now c.args.fact.now.0 c.args.fact.now.1 c.requires.held
          (sym c.names_skipped.ensures ∙ c.if-names_skipped.false) go,
    )
