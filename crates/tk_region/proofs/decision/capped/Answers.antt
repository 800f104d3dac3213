use Rattle.std.proofs.Common.{rules}
use Rattle.tk_region.proofs.decision.capped.Goals as goal

pub returns-clause-value : goal.returns-clause-value
returns-clause-value c = search rules

pub returns-clause-under : goal.returns-clause-under
returns-clause-under c = search rules
