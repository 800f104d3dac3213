use Rattle.std.proofs.Common.{rules}
use Rattle.tk_bundle.proofs.front.skip.Goals as goal

pub returns-in_err-ok_or : goal.returns-in_err-ok_or
returns-in_err-ok_or c = search rules
