use Rattle.std.proofs.Common.{ap, subst, sym, ◌∙◌}
use Rattle.std.specs.Option.{option_map}
use Rattle.std.specs.FinMap as map
use Rattle.tk_fact.specs.Tokens.{anchor_of, shown_minted}
use Rattle.tk_store.specs.StoreFields.{held_facts}
use Rattle.tk_ledger.specs.ByTop.{TopSays}
use Rattle.tk_ledger.proofs.TopLaws.{status_by_top}
use Rattle.tk_ledger.proofs.ledger.Ledger.of_fact.Goals as goal

pub returns-clause-value : goal.returns-clause-value
returns-clause-value c =
    c.of_top.ensures.value
    ∙ status_by_top (held_facts c.args.self.now) c.args.now c.args.handle.now c.args.fact.now.1
    (shown_minted c.in-Some.minted) c.top-top.result
    (ap (map.get (held_facts c.args.self.now)) (sym c.requires.dot) ∙ c.requires.held)
    (sym c.minted_as.ensures ∙ ap (option_map shown_minted) c.in-Some.is)
    (subst (λ q. TopSays (held_facts c.args.self.now) q c.top-top.result)
    (c.anchor.ensures ∙ ap (λ d. anchor_of d c.args.fact.now.1) c.requires.dot)
    c.top-top.ensures.value)
