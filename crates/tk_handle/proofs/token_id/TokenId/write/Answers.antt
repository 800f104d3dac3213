use Rattle.std.proofs.Common.{arith}
use Rattle.std.proofs.lemmas.Grind.{common_steps}
use Rattle.tk_handle.proofs.token_id.TokenId.write.Goals as goal

pub returns : goal.returns
returns c = grind (arith, common_steps)
