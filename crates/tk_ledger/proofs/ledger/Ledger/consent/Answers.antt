use Rattle.std.proofs.Common.{rules}
use Rattle.tk_ledger.proofs.ledger.Ledger.consent.Goals as goal

pub returns-in-Some : goal.returns-in-Some
returns-in-Some c = search rules
