use Rattle.clap.specs.Words.{found_of, rows_of}
use Rattle.tokend.proofs.TypedNumber.{none_between}
use Rattle.tokend.proofs.options.number.Goals as goal

pub returns-in_err-n-clause-none : goal.returns-in_err-n-clause-none
returns-in_err-n-clause-none c =
    none_between (rows_of (found_of c.args.matches.now)) c.args.id.now c.args.least c.args.greatest
    c.from_residual.result c.ranges.greatest.fits c.in_err-n.ensures.none
