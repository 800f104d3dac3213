use Rattle.std.proofs.Common.{rules}
use Rattle.tk_authorize.proofs.sign_outs.is_out.Goals as goal

pub returns-in-Some : goal.returns-in-Some
returns-in-Some c = search rules
