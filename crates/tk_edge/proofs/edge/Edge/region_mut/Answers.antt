use Rattle.std.proofs.Common.{rules}
use Rattle.tk_edge.proofs.edge.Edge.region_mut.Goals as goal

pub returns : goal.returns
returns c = search rules
