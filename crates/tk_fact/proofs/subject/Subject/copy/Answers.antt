use Rattle.std.proofs.Common.{rules}
use Rattle.tk_fact.proofs.subject.Subject.copy.Goals as goal

pub returns : goal.returns
returns c = search rules
