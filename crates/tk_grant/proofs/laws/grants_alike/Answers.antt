use Rattle.tk_grant.proofs.AlikeLaws.{grants_alike}
use Rattle.tk_grant.proofs.laws.grants_alike.Goals as goal

pub returns : goal.returns
returns c = grants_alike
