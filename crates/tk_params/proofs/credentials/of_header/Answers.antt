use Rattle.std.proofs.Common.{rules}
use Rattle.tk_params.proofs.credentials.of_header.Goals as goal

pub returns-in-None-clause-basic : goal.returns-in-None-clause-basic
returns-in-None-clause-basic c = search rules
