use Rattle.std.proofs.Common.{rules}
use Rattle.tk_message.proofs.error_code.ErrorCode.status.Goals as goal

pub returns-in-NotFound : goal.returns-in-NotFound
returns-in-NotFound c = search rules
