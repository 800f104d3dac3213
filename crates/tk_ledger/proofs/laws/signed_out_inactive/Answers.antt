use Rattle.tk_ledger.proofs.FamilyEnds.{signed_out_inactive}
use Rattle.tk_ledger.proofs.laws.signed_out_inactive.Goals as goal

pub returns : goal.returns
returns c = signed_out_inactive
