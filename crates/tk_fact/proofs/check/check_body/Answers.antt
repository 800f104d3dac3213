use Rattle.std.proofs.Common.{rules}
use Rattle.tk_fact.proofs.check.check_body.Goals as goal

pub returns-after-contains-clause-ok : goal.returns-after-contains-clause-ok
returns-after-contains-clause-ok c = search rules
