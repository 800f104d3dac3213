use Rattle.std.proofs.Common.{rules}
use Rattle.tk_edge.proofs.edge.Edge.sealed.Goals as goal

pub returns : goal.returns
returns c = search rules
