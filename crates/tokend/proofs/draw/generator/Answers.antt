use Rattle.std.proofs.Common.{rules}
use Rattle.tokend.proofs.draw.generator.Goals as goal

pub returns : goal.returns
returns c = search rules
