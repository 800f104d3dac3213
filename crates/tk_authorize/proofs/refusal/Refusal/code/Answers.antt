use Rattle.std.proofs.Common.{rules}
use Rattle.tk_authorize.proofs.refusal.Refusal.code.Goals as goal

pub returns : goal.returns
returns c = search rules
