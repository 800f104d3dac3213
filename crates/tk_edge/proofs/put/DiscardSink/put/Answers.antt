use Rattle.std.proofs.Common.{rules}
use Rattle.tk_edge.proofs.put.DiscardSink.put.Goals as goal

pub returns-clause-some : goal.returns-clause-some
returns-clause-some c = search rules
