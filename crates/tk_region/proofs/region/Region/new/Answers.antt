use Rattle.std.proofs.Common.{rules}
use Rattle.tk_region.proofs.CapLaws.{capped_empty}
use Rattle.tk_region.proofs.region.Region.new.Goals as goal

pub invariant_of-result : goal.invariant_of-result
invariant_of-result c = capped_empty _ c.new.ensures c.cap-cap.ensures.range.1

pub returns : goal.returns
returns c = search rules
