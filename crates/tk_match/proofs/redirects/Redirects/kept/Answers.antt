use Rattle.std.proofs.Common.{arith}
use Rattle.std.proofs.lemmas.Grind.{common_steps}
use Rattle.tk_match.proofs.redirects.Redirects.kept.Goals as goal

pub returns-in_err-uris-clause-ok : goal.returns-in_err-uris-clause-ok
returns-in_err-uris-clause-ok c = grind (arith, common_steps)

pub returns-in_err-uris-clause-empty : goal.returns-in_err-uris-clause-empty
returns-in_err-uris-clause-empty c = grind (arith, common_steps)

pub returns-in_err-uris-clause-too_many : goal.returns-in_err-uris-clause-too_many
returns-in_err-uris-clause-too_many c = grind (arith, common_steps)

pub returns-in_err-uris-clause-bad : goal.returns-in_err-uris-clause-bad
returns-in_err-uris-clause-bad c = grind (arith, common_steps)

pub returns-in_err-uris-clause-empty_none : goal.returns-in_err-uris-clause-empty_none
returns-in_err-uris-clause-empty_none c = grind (arith, common_steps)

pub returns-in_err-uris-clause-too_many_none : goal.returns-in_err-uris-clause-too_many_none
returns-in_err-uris-clause-too_many_none c = grind (arith, common_steps)

pub returns-in_err-uris-clause-bad_none : goal.returns-in_err-uris-clause-bad_none
returns-in_err-uris-clause-bad_none c = grind (arith, common_steps)
