use Rattle.std.proofs.Common.{subst, ap}
use Rattle.std.specs.FinMap as map
use Rattle.tk_store.specs.FactSet.{FactSet}
use Rattle.tk_store.specs.StoreFields.{held_facts}
use Rattle.tk_ledger.specs.SignOuts.{IsLastSignOut}
use Rattle.tk_ledger.proofs.SignOutLaws.{last_tells}
use Rattle.tk_ledger.proofs.ledger.Ledger.signed_out.Goals as goal

pub returns-clause-value : goal.returns-clause-value
returns-clause-value c = λ moment.
    last_tells (held_facts c.args.self.now) c.args.subject.now c.last_sign_out.result
    (subst (λ (F : FactSet). IsLastSignOut (map.get F) c.args.subject.now c.last_sign_out.result)
    (ap held_facts c.self.view_is) c.last_sign_out.ensures) moment
