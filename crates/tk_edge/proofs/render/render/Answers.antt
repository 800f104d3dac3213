use Rattle.std.proofs.Common.{rules}
use Rattle.tk_edge.proofs.render.render.Goals as goal

pub returns : goal.returns
returns c = search rules
