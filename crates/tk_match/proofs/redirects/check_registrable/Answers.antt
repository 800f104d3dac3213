use Rattle.std.proofs.Common.{arith}
use Rattle.std.proofs.lemmas.Grind.{common_steps}
use Rattle.tk_match.proofs.redirects.check_registrable.Goals as goal

pub loop-uri-init : goal.loop-uri-init
loop-uri-init c = grind (arith, common_steps)

pub returns-in_err-check_registrable-clause-ok : goal.returns-in_err-check_registrable-clause-ok
returns-in_err-check_registrable-clause-ok c = grind (arith, common_steps)

pub returns-in_err-check_registrable-clause-err : goal.returns-in_err-check_registrable-clause-err
returns-in_err-check_registrable-clause-err c = grind (arith, common_steps)

pub returns-in_err-check_registrable-clause-bad : goal.returns-in_err-check_registrable-clause-bad
returns-in_err-check_registrable-clause-bad c = grind (arith, common_steps)

pub returns-in_err-check_registrable-clause-refused
    : goal.returns-in_err-check_registrable-clause-refused
returns-in_err-check_registrable-clause-refused c = grind (arith, common_steps)

pub loop-uri-smaller : goal.loop-uri-smaller
loop-uri-smaller c = grind (arith, common_steps)

pub loop-uri-preserved : goal.loop-uri-preserved
loop-uri-preserved c = grind (arith, common_steps)
