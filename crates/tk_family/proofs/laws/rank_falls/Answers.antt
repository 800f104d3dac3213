use Rattle.tk_family.proofs.FamilyLaws.{IsParent-rank}
use Rattle.tk_family.proofs.laws.rank_falls.Goals as goal

pub returns : goal.returns
returns c = IsParent-rank
