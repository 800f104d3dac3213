use Rattle.tk_family.proofs.FamilyLaws.{IsTrail-length, IsTrail-no_ring}
use Rattle.tk_family.proofs.laws.walk_ends.Goals as goal

pub returns-clause-length : goal.returns-clause-length
returns-clause-length c = IsTrail-length

pub returns-clause-no_ring : goal.returns-clause-no_ring
returns-clause-no_ring c = IsTrail-no_ring
