use Rattle.tk_family.specs.Laws.{passing}
use Rattle.tk_family.proofs.FamilyLaws.{IsDead-within}
use Rattle.tk_family.proofs.laws.death_stays.Goals as goal

pub returns : goal.returns
returns c = λ f g m n. IsDead-within f g (passing m) (passing n)
