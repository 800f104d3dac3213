use Rattle.tk_ledger.proofs.FamilyEnds.{family_inactive}
use Rattle.tk_ledger.proofs.laws.family_inactive.Goals as goal

pub returns : goal.returns
returns c = family_inactive
