use Rattle.std.proofs.Common.{ap, ◌∙◌}
use Rattle.tk_store.specs.FactSet.{FactSet}
use Rattle.tk_store.specs.StoreFields.{held_facts}
use Rattle.tk_ledger.specs.Secrets.{is_set}
use Rattle.tk_ledger.proofs.SecretLaws.{has_secret_is}
use Rattle.tk_ledger.proofs.ledger.Ledger.was_set.Goals as goal

pub returns : goal.returns
returns c =
    c.is_set.ensures.value
    ∙ has_secret_is (held_facts c.self.inside.store) c.self.inside.index.secrets c.args.client
    c.args.turn c.args.digest.now c.self.invariant.secrets_are c.is_set.ensures.early
    ∙ ap (λ (F : FactSet). is_set F c.args.client c.args.turn c.args.digest.now)
    (ap held_facts c.self.view_is)
