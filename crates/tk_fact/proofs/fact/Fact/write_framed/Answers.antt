use Rattle.std.proofs.Common.{rules}
use Rattle.tk_fact.proofs.fact.Fact.write_framed.Goals as goal

pub returns-clause-ok : goal.returns-clause-ok
returns-clause-ok c = search rules
