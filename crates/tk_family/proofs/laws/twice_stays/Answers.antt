use Rattle.tk_family.proofs.FamilyLaws.{IsTwice-within}
use Rattle.tk_family.proofs.laws.twice_stays.Goals as goal

pub returns : goal.returns
returns c = IsTwice-within
