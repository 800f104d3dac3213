use Rattle.std.proofs.Common.{rules}
use Rattle.tk_match.proofs.challenge.Challenge.copy.Goals as goal

pub returns : goal.returns
returns c = search rules
