use Rattle.std.proofs.Common.{rules}
use Rattle.tk_ledger.proofs.ledger.Ledger.state.Goals as goal

pub returns-then-is_used-clause-value : goal.returns-then-is_used-clause-value
returns-then-is_used-clause-value c = search rules

pub returns-then-seconds-2-clause-at_most : goal.returns-then-seconds-2-clause-at_most
returns-then-seconds-2-clause-at_most c = search rules

pub returns-else-is_access-clause-at_most : goal.returns-else-is_access-clause-at_most
returns-else-is_access-clause-at_most c = search rules
