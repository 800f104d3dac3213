use Rattle.tk_grant.proofs.MadeLaws.{grants_within}
use Rattle.tk_grant.proofs.laws.grants_within.Goals as goal

pub returns : goal.returns
returns c = grants_within
