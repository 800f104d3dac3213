use Rattle.std.proofs.Common.{rules}
use Rattle.tk_fact.proofs.code_redeemed.CodeRedeemed.read.Goals as goal

pub returns-in-Ok : goal.returns-in-Ok
returns-in-Ok c = search rules
