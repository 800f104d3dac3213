use Rattle.std.proofs.Common.{rules}
use Rattle.tk_family.proofs.steps.Steps.tick.Goals as goal

pub returns-clause-more : goal.returns-clause-more
returns-clause-more c = search rules

pub returns-clause-at_most : goal.returns-clause-at_most
returns-clause-at_most c = search rules
