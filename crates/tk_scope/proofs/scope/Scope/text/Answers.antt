use Rattle.tk_scope.proofs.Printing.{accepted_by_scope, scope_rises}
use Rattle.tk_scope.proofs.scope.Scope.text.Goals as goal

pub returns-clause-in_order : goal.returns-clause-in_order
returns-clause-in_order c = rw (← c.self.view_is) (scope_rises _ c.self.invariant)

pub returns-clause-short : goal.returns-clause-short
returns-clause-short c = rw (← c.self.view_is) (accepted_by_scope _ _ c.self.invariant).0.short
