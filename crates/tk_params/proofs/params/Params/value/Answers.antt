use Rattle.std.proofs.Common.{rules}
use Rattle.tk_params.proofs.params.Params.value.Goals as goal

pub returns-in-Value : goal.returns-in-Value
returns-in-Value c = search rules
