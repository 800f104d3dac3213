use Rattle.std.proofs.Common.{sym, ◌∙◌}
use Rattle.std.specs.BTreeSet.{contains}
use Rattle.tk_store.specs.StoreFields.{held_facts}
use Rattle.tk_ledger.specs.Index.{consent_cmp}
use Rattle.tk_ledger.proofs.ConsentTableLaws.{unlisted}
use Rattle.tk_ledger.proofs.consent_keys.unlist.Goals as goal

pub returns-in-Some : goal.returns-in-Some
returns-in-Some c = λ k.
    unlisted (held_facts c.args.facts.now) c.args.consent c.in-Some.key k
    (contains consent_cmp c.args.consents.now k) (contains consent_cmp c.remove.new.self k)
    (sym c.in-Some.is ∙ c.key_at.ensures) (c.remove.ensures.updates.0 k)
