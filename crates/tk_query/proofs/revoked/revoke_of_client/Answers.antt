use Rattle.std.proofs.Common.{rules}
use Rattle.tk_query.proofs.revoked.revoke_of_client.Goals as goal

pub returns-then-ne-clause-value : goal.returns-then-ne-clause-value
returns-then-ne-clause-value c = search rules

pub returns-clause-value : goal.returns-clause-value
returns-clause-value c = search rules
