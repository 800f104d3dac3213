use Rattle.std.proofs.Common.{ap, ◌∙◌}
use Rattle.tk_store.specs.FactSet.{FactSet}
use Rattle.tk_store.specs.StoreFields.{held_facts}
use Rattle.tk_ledger.specs.Secrets.{last_turn}
use Rattle.tk_ledger.proofs.SecretLaws.{last_listed_is}
use Rattle.tk_ledger.proofs.ledger.Ledger.last_turn.Goals as goal

pub returns : goal.returns
returns c =
    c.last_turn.ensures.value
    ∙ last_listed_is (held_facts c.self.inside.store) c.self.inside.index.secrets c.args.client
    c.self.invariant.secrets_are c.last_turn.ensures.sorted
    ∙ ap (λ (F : FactSet). last_turn F c.args.client) (ap held_facts c.self.view_is)
