use Rattle.std.proofs.Common.{rules}
use Rattle.tk_ledger.proofs.ledger.Ledger.of_top.Goals as goal

pub returns-in-Dead-clause-value : goal.returns-in-Dead-clause-value
returns-in-Dead-clause-value c = search rules
