use Rattle.std.proofs.Common.{rules}
use Rattle.tk_match.proofs.redirects.Redirects.of_client.Goals as goal

pub returns-clause-registrable : goal.returns-clause-registrable
returns-clause-registrable c = search rules

pub returns-in_err-check_registrable-clause-ok : goal.returns-in_err-check_registrable-clause-ok
returns-in_err-check_registrable-clause-ok c = search rules

pub returns-in_err-check_registrable-clause-registrable
    : goal.returns-in_err-check_registrable-clause-registrable
returns-in_err-check_registrable-clause-registrable c = search rules

pub returns-in_err-check_registrable-clause-empty
    : goal.returns-in_err-check_registrable-clause-empty
returns-in_err-check_registrable-clause-empty c = search rules

pub returns-in_err-check_registrable-clause-too_many
    : goal.returns-in_err-check_registrable-clause-too_many
returns-in_err-check_registrable-clause-too_many c = search rules

pub returns-in_err-check_registrable-clause-bad : goal.returns-in_err-check_registrable-clause-bad
returns-in_err-check_registrable-clause-bad c = search rules

pub returns-in_err-check_registrable-clause-refused
    : goal.returns-in_err-check_registrable-clause-refused
returns-in_err-check_registrable-clause-refused c = search rules
