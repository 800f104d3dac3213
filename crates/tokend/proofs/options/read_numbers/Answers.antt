use Rattle.clap.specs.Words.{found_of, rows_of}
use Rattle.tokend.proofs.Tasks.{without_code, without_access, without_refresh, without_family}
use Rattle.tokend.proofs.Tasks.{without_cap}
use Rattle.tokend.proofs.options.read_numbers.Goals as goal

pub returns-in_err-number-clause-none : goal.returns-in_err-number-clause-none
returns-in_err-number-clause-none c = without_code (rows_of (found_of c.args.matches.now))
    c.from_residual.result c.in_err-number.ensures.none

pub returns-in_err-number-2-clause-none : goal.returns-in_err-number-2-clause-none
returns-in_err-number-2-clause-none c = without_access (rows_of (found_of c.args.matches.now))
    c.from_residual-in_err-number-2.result c.in_err-number-2.ensures.none

pub returns-in_err-number-3-clause-none : goal.returns-in_err-number-3-clause-none
returns-in_err-number-3-clause-none c = without_refresh (rows_of (found_of c.args.matches.now))
    c.from_residual-in_err-number-3.result c.in_err-number-3.ensures.none

pub returns-in_err-number-4-clause-none : goal.returns-in_err-number-4-clause-none
returns-in_err-number-4-clause-none c = without_family (rows_of (found_of c.args.matches.now))
    c.from_residual-in_err-number-4.result c.in_err-number-4.ensures.none

pub returns-in_err-number-5-clause-none : goal.returns-in_err-number-5-clause-none
returns-in_err-number-5-clause-none c = without_cap (rows_of (found_of c.args.matches.now))
    c.from_residual-in_err-number-5.result c.in_err-number-5.ensures.none
