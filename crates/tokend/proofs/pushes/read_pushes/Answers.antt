use Rattle.std.proofs.Common.{rules}
use Rattle.clap.specs.Words.{found_of, rows_of}
use Rattle.tokend.proofs.MissingOptions.{without_range, without_refusal}
use Rattle.tokend.proofs.pushes.read_pushes.Goals as goal

pub returns-in_default-clause-none : goal.returns-in_default-clause-none
returns-in_default-clause-none c =
    without_refusal (rows_of (found_of c.args.matches.now)) (search rules)

pub returns-in_default-read_range-clause-none : goal.returns-in_default-read_range-clause-none
returns-in_default-read_range-clause-none c =
    without_range (rows_of (found_of c.args.matches.now)) (search rules)
