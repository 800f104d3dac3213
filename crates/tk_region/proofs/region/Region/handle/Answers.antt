use Rattle.std.proofs.Common.{rules}
use Rattle.tk_region.proofs.region.Region.handle.Goals as goal

pub returns-clause-commits : goal.returns-clause-commits
returns-clause-commits c = search rules
