use Rattle.tk_ledger.proofs.FamilyEnds.{revoked_inactive}
use Rattle.tk_ledger.proofs.laws.revoked_inactive.Goals as goal

pub returns : goal.returns
returns c = revoked_inactive
