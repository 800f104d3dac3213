use Rattle.std.proofs.Common.{rules}
use Rattle.std.specs.Prelude.{is_some}
use Rattle.clap.specs.Words.{found_of, rows_of, subcommand_rows_of}
use Rattle.tokend.proofs.TaskOptions.{misnamed_given}
use Rattle.tokend.proofs.choices.misnamed_word.Goals as goal

pub returns-in-Some : goal.returns-in-Some
returns-in-Some c =
    misnamed_given (subcommand_rows_of c.args.matches.now) (rows_of (found_of c.in-Some.values.now))
    (is_some c.misnamed_in.result) (search rules) c.misnamed_in.ensures
