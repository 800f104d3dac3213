use Rattle.std.proofs.Common.{rules}
use Rattle.tk_grant.proofs.gate.gate_by_client.Goals as goal

pub returns-in-Dead-clause-value : goal.returns-in-Dead-clause-value
returns-in-Dead-clause-value c = search rules
