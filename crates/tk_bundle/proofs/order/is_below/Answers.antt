use Rattle.std.proofs.Common.{rules}
use Rattle.tk_bundle.proofs.order.is_below.Goals as goal

pub returns : goal.returns
returns c = search rules
