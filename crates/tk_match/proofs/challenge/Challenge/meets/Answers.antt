use Rattle.std.proofs.Common.{rules}
use Rattle.tk_match.proofs.challenge.Challenge.meets.Goals as goal

pub returns-then-self-clause-value : goal.returns-then-self-clause-value
returns-then-self-clause-value c = search rules

pub returns-then-self-clause-meaning : goal.returns-then-self-clause-meaning
returns-then-self-clause-meaning c = search rules
