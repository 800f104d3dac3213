use Rattle.tk_family.proofs.FamilyLaws.{IsUnder-one}
use Rattle.tk_family.proofs.laws.one_code.Goals as goal

pub returns : goal.returns
returns c = IsUnder-one
