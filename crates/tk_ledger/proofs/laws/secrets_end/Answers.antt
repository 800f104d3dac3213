use Rattle.tk_ledger.proofs.LastTurnLaws.{secrets_end, turns_grow}
use Rattle.tk_ledger.proofs.laws.secrets_end.Goals as goal

pub returns-clause-ends : goal.returns-clause-ends
returns-clause-ends c = secrets_end

pub returns-clause-grows : goal.returns-clause-grows
returns-clause-grows c = turns_grow
