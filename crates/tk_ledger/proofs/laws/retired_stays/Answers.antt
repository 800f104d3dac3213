use Rattle.tk_ledger.proofs.ClientLaws.{retired_stays}
use Rattle.tk_ledger.proofs.laws.retired_stays.Goals as goal

pub returns : goal.returns
returns c = retired_stays
