use Rattle.std.proofs.Common.{rules}
use Rattle.tk_query.proofs.introspected.by_standing.Goals as goal

pub returns-then-not-sees : goal.returns-then-not-sees
returns-then-not-sees c = search rules
