use Rattle.std.proofs.Common.{ap, ◌∙◌}
use Rattle.std.specs.FinMap as map
use Rattle.tk_family.specs.Families.{Links}
use Rattle.tk_family.specs.Walks.{code_of}
use Rattle.tk_store.specs.StoreFields.{held_facts}
use Rattle.tk_ledger.specs.ByTop.{root_by}
use Rattle.tk_ledger.specs.Tokens.{anchor_in, minted_in, is_ended_by}
use Rattle.tk_ledger.proofs.RevocationLaws.{ended_same}
use Rattle.tk_ledger.proofs.wake.is_ended.Goals as goal

pub returns : goal.returns
returns c =
    c.is_ended_by.ensures
    ∙ ended_same (held_facts c.args.facts.now) c.args.revocations.now c.args.token.now
    c.requires.revocations _ c.root_above.result
    ∙ ap (λ m. is_ended_by (held_facts c.args.facts.now) c.args.token.now m c.root_above.result)
    c.minted_at.ensures
    ∙ ap (λ r. is_ended_by (held_facts c.args.facts.now) c.args.token.now
    (minted_in (map.get (held_facts c.args.facts.now)) c.args.token.now) r) c.root_above.ensures
    ∙ ap (λ (f : Links).
    is_ended_by (held_facts c.args.facts.now) c.args.token.now
    (minted_in (map.get (held_facts c.args.facts.now)) c.args.token.now)
    (root_by (map.get (held_facts c.args.facts.now))
    (code_of f (anchor_in (map.get (held_facts c.args.facts.now)) c.args.token.now.dot)))) (λ i q.
    c.requires.links q i)
