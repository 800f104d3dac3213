use Rattle.std.proofs.Common.{rules}
use Rattle.tokend.proofs.draw.draw_one.Goals as goal

pub returns-clause-value : goal.returns-clause-value
returns-clause-value c = search rules
