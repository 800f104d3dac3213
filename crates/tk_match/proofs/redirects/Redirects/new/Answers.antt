use Rattle.std.proofs.Common.{rules}
use Rattle.tk_match.proofs.UriLists.{all_read}
use Rattle.tk_match.proofs.redirects.Redirects.new.Goals as goal

pub returns-clause-absolute : goal.returns-clause-absolute
returns-clause-absolute c = search (rules, all_read)

pub returns-clause-registered : goal.returns-clause-registered
returns-clause-registered c = search rules

pub returns-in_err-check_absolute-clause-ok : goal.returns-in_err-check_absolute-clause-ok
returns-in_err-check_absolute-clause-ok c = search rules

pub returns-in_err-check_absolute-clause-absolute
    : goal.returns-in_err-check_absolute-clause-absolute
returns-in_err-check_absolute-clause-absolute c = search rules

pub returns-in_err-check_absolute-clause-registered
    : goal.returns-in_err-check_absolute-clause-registered
returns-in_err-check_absolute-clause-registered c = search rules

pub returns-in_err-check_absolute-clause-empty : goal.returns-in_err-check_absolute-clause-empty
returns-in_err-check_absolute-clause-empty c = search rules

pub returns-in_err-check_absolute-clause-too_many
    : goal.returns-in_err-check_absolute-clause-too_many
returns-in_err-check_absolute-clause-too_many c = search rules

pub returns-in_err-check_absolute-clause-bad : goal.returns-in_err-check_absolute-clause-bad
returns-in_err-check_absolute-clause-bad c = search rules

pub returns-in_err-check_absolute-clause-refused : goal.returns-in_err-check_absolute-clause-refused
returns-in_err-check_absolute-clause-refused c = search rules
