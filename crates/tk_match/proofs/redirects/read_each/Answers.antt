use Rattle.std.proofs.Common.{arith, rules}
use Rattle.std.proofs.lemmas.Grind.{common_steps}
use Rattle.tk_match.proofs.UriLists.{bad_text}
use Rattle.tk_match.proofs.redirects.read_each.Goals as goal

pub returns-in_err-put_read-clause-bad : goal.returns-in_err-put_read-clause-bad
returns-in_err-put_read-clause-bad c = search (rules, bad_text)

pub loop-text-preserved : goal.loop-text-preserved
loop-text-preserved c = grind (arith, common_steps)

pub returns-clause-ok : goal.returns-clause-ok
returns-clause-ok c = grind (arith, common_steps)

pub returns-clause-rule : goal.returns-clause-rule
returns-clause-rule c = grind (arith, common_steps)
