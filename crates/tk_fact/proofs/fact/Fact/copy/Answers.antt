use Rattle.std.proofs.Common.{rules}
use Rattle.tk_fact.proofs.fact.Fact.copy.Goals as goal

pub returns : goal.returns
returns c = search rules
