use Rattle.std.proofs.Common.{◌||◌, sym, ap, ◌∙◌}
use Rattle.tk_store.specs.StoreFields.{held_facts}
use Rattle.tk_ledger.specs.Tokens.{is_stopped}
use Rattle.tk_ledger.proofs.ReuseLaws.{has_reuse_is}
use Rattle.tk_ledger.proofs.wake.is_marked.Goals as goal

pub returns-then-is_reused : goal.returns-then-is_reused
returns-then-is_reused c =
    c.if-is_reused.true
    ∙ sym (ap (λ b. b || is_stopped (held_facts c.args.facts.now) c.args.token.now)
    (sym (has_reuse_is (held_facts c.args.facts.now) c.args.reuses.now c.args.token.now
    c.requires.reuses)
    ∙ sym c.is_reused.ensures ∙ c.if-is_reused.true))

pub returns-else-is_reused : goal.returns-else-is_reused
returns-else-is_reused c =
    c.is_stopped.ensures
    ∙ sym (ap (λ b. b || is_stopped (held_facts c.args.facts.now) c.args.token.now)
    (sym (has_reuse_is (held_facts c.args.facts.now) c.args.reuses.now c.args.token.now
    c.requires.reuses)
    ∙ sym c.is_reused.ensures ∙ c.if-is_reused.false))
