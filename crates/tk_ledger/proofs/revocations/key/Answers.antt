use Rattle.std.proofs.Common.{rules}
use Rattle.tk_ledger.proofs.revocations.key.Goals as goal

pub returns : goal.returns
returns c = search rules
