use Rattle.std.proofs.Common.{rules}
use Rattle.tk_family.proofs.steps.Steps.new.Goals as goal

pub returns : goal.returns
returns c = search rules
