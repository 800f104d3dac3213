use Rattle.std.proofs.Common.{rules}
use Rattle.clap.specs.Words.{found_of, rows_of, subcommand_rows_of}
use Rattle.tokend.proofs.TaskOptions.{unplaced_given}
use Rattle.tokend.proofs.address.is_unplaced.Goals as goal

pub returns-in-Some : goal.returns-in-Some
returns-in-Some c =
    unplaced_given (subcommand_rows_of c.args.matches.now) (rows_of (found_of c.in-Some.values.now))
    c.is_unplaced_in.result (search rules) c.is_unplaced_in.ensures
