use Rattle.std.proofs.Common.{rules}
use Rattle.tk_handle.proofs.login_id.login_text.Goals as goal

pub returns : goal.returns
returns c = search rules
