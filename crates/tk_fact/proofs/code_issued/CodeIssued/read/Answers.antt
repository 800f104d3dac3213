use Rattle.std.proofs.Common.{rules}
use Rattle.tk_fact.proofs.code_issued.CodeIssued.read.Goals as goal

pub returns-in-Ok-read_challenge : goal.returns-in-Ok-read_challenge
returns-in-Ok-read_challenge c = search rules
