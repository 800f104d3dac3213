use Rattle.tk_grant.proofs.RepeatLaws.{refreshes_anew}
use Rattle.tk_grant.proofs.laws.refreshes_anew.Goals as goal

pub returns : goal.returns
returns c = refreshes_anew
