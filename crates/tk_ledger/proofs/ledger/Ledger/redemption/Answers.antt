use Rattle.std.proofs.Common.{Some, sym, ap, subst, ◌∙◌}
use Rattle.std.specs.FinMap as map
use Rattle.std.specs.Option.{option_map}
use Rattle.tk_handle.specs.declared.token_id.TokenId.{TokenId}
use Rattle.tk_family.specs.Families.{IsUsed}
use Rattle.tk_family.specs.ForestFacts.{links_at}
use Rattle.tk_store.specs.FactSet.{FactSet}
use Rattle.tk_store.specs.StoreFields.{held_facts}
use Rattle.tk_ledger.specs.Index.{IsTied}
use Rattle.tk_ledger.proofs.LoginLaws.{redeemed, unredeemed}
use Rattle.tk_ledger.proofs.ledger.Ledger.redemption.Goals as goal

pub returns-in-Some : goal.returns-in-Some
returns-in-Some c = λ alive.
    c.get.ensures
    ∙ ap (λ (F : FactSet). option_map (λ body. (c.in-Some.place, body)) (map.get F c.in-Some.place))
    (ap held_facts c.self.view_is)
    ∙ redeemed (held_facts c.args.self.now) c.self.inside.index.forest
    (subst (λ (F : FactSet). IsTied F c.self.inside.index.forest) (ap held_facts c.self.view_is)
    c.self.invariant.tied)
    c.args.at c.requires alive c.in-Some.place
    (c.in-Some.ensures.some ∙ ap (λ (k : TokenId). Some k) c.code_token.ensures)

pub returns-in-None : goal.returns-in-None
returns-in-None c = λ alive. sym
    (unredeemed (held_facts c.args.self.now) c.self.inside.index.forest
    (subst (λ (F : FactSet). IsTied F c.self.inside.index.forest) (ap held_facts c.self.view_is)
    c.self.invariant.tied)
    c.args.at
    (subst (λ (k : TokenId). ¬ IsUsed (links_at c.self.inside.index.forest) k) c.code_token.ensures
    c.in-None.ensures.none))
