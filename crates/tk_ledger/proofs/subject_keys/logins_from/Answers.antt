use Rattle.std.proofs.Common.{sym, subst, ◌∙◌}
use Rattle.tk_handle.specs.declared.dot.Dot.{Dot}
use Rattle.tk_handle.specs.Dot.{IsDot}
use Rattle.tk_store.proofs.PutLaws.{some_injective, none_is_not_some}
use Rattle.tk_ledger.proofs.subject_keys.logins_from.Goals as goal

pub returns-in-Some-clause-ranged : goal.returns-in-Some-clause-ranged
returns-in-Some-clause-ranged c = λ d h. subst (λ (x : Dot). IsDot x)
    (some_injective c.in-Some.dot d (sym c.in-Some.is ∙ h))
    (c.region.ensures.range, c.serial.ensures.range)

pub returns-in-None-clause-ranged : goal.returns-in-None-clause-ranged
returns-in-None-clause-ranged c = λ d h. absurd (none_is_not_some d (sym c.in-None.is ∙ h))
