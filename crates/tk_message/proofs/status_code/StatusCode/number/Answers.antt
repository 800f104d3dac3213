use Rattle.std.proofs.Common.{rules}
use Rattle.tk_message.proofs.status_code.StatusCode.number.Goals as goal

pub returns-in-Found : goal.returns-in-Found
returns-in-Found c = search rules
