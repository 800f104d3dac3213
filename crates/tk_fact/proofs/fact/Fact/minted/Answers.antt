use Rattle.std.proofs.Common.{rules}
use Rattle.tk_fact.proofs.fact.Fact.minted.Goals as goal

pub returns-in-CodeRedeemed-Refresh : goal.returns-in-CodeRedeemed-Refresh
returns-in-CodeRedeemed-Refresh c = search rules
