use Rattle.std.proofs.Common.{rules}
use Rattle.tk_vector.proofs.vector.VersionVector.covers.Goals as goal

pub returns : goal.returns
returns c = search rules
