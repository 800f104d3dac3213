use Rattle.tk_ledger.proofs.TokenLaws.{uses_agree}
use Rattle.tk_ledger.proofs.laws.uses_agree.Goals as goal

pub returns : goal.returns
returns c = uses_agree
