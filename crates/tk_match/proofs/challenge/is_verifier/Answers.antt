use Rattle.std.proofs.Common.{rules}
use Rattle.tk_match.proofs.challenge.is_verifier.Goals as goal

pub returns-then-contains : goal.returns-then-contains
returns-then-contains c = search rules
