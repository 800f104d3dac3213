use Rattle.std.proofs.Common.{rules}
use Rattle.tk_message.proofs.error_code.ErrorCode.name.Goals as goal

pub returns-in-InvalidScope : goal.returns-in-InvalidScope
returns-in-InvalidScope c = search rules
