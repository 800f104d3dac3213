use Rattle.std.proofs.Common.{rules}
use Rattle.tk_fact.proofs.fact.Fact.uses.Goals as goal

pub returns-in-CodeRedeemed : goal.returns-in-CodeRedeemed
returns-in-CodeRedeemed c = search rules
