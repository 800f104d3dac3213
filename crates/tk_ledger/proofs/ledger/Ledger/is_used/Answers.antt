use Rattle.std.proofs.Common.{◌≡◌, subst, ap}
use Rattle.tk_store.specs.FactSet.{FactSet}
use Rattle.tk_store.specs.StoreFields.{held_facts}
use Rattle.tk_ledger.specs.Tokens.{is_used}
use Rattle.tk_ledger.proofs.TopLaws.{used_says}
use Rattle.tk_ledger.proofs.ledger.Ledger.is_used.Goals as goal

pub returns-clause-value : goal.returns-clause-value
returns-clause-value c =
    subst (λ (F : FactSet). c.used.result ≡ is_used F c.args.token) (ap held_facts c.self.view_is)
    (used_says (held_facts c.self.inside.store) c.self.inside.index.forest c.args.token
    c.used.result c.self.invariant.tied c.used.ensures.used)
