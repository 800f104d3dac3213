use Rattle.std.proofs.Common.{rules}
use Rattle.tk_match.proofs.challenge.Challenge.text.Goals as goal

pub returns-clause-value : goal.returns-clause-value
returns-clause-value c = search rules

pub returns-clause-known : goal.returns-clause-known
returns-clause-known c = search rules
