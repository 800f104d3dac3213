use Rattle.std.proofs.Common.{rules}
use Rattle.clap.specs.Words.{found_of, rows_of}
use Rattle.tokend.proofs.MissingOptions.{without_issuer}
use Rattle.tokend.proofs.notices.read_notices.Goals as goal

pub returns-in_default-clause-none : goal.returns-in_default-clause-none
returns-in_default-clause-none c =
    without_issuer (rows_of (found_of c.args.matches.now)) (search rules)
