use Rattle.std.proofs.Common.{rules}
use Rattle.tk_ledger.proofs.standing.minted_as.Goals as goal

pub returns-then-same_digests : goal.returns-then-same_digests
returns-then-same_digests c = search rules
