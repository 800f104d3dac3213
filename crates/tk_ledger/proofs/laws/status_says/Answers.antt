use Rattle.tk_ledger.proofs.StatusCases.{unseen_exactly, wrong_exactly, broken_exactly}
use Rattle.tk_ledger.proofs.StatusCases.{known_exactly}
use Rattle.tk_ledger.proofs.laws.status_says.Goals as goal

pub returns-clause-unseen : goal.returns-clause-unseen
returns-clause-unseen c = unseen_exactly

pub returns-clause-wrong : goal.returns-clause-wrong
returns-clause-wrong c = wrong_exactly

pub returns-clause-broken : goal.returns-clause-broken
returns-clause-broken c = broken_exactly

pub returns-clause-known : goal.returns-clause-known
returns-clause-known c = known_exactly
