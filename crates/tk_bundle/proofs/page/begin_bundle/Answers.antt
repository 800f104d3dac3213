use Rattle.std.proofs.Common.{rules}
use Rattle.tk_bundle.proofs.page.begin_bundle.Goals as goal

pub returns : goal.returns
returns c = search rules
