use Rattle.tk_ledger.proofs.FamilyEnds.{bad_grants}
use Rattle.tk_ledger.proofs.laws.bad_grants.Goals as goal

pub returns : goal.returns
returns c = bad_grants
