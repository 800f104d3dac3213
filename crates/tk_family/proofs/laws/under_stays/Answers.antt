use Rattle.tk_family.proofs.FamilyLaws.{IsUnder-within}
use Rattle.tk_family.proofs.laws.under_stays.Goals as goal

pub returns : goal.returns
returns c = IsUnder-within
