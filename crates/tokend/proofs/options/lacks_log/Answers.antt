use Rattle.std.proofs.Common.{rules, codes, ◌∙◌}
use Rattle.clap.specs.Words.{found_of, rows_of, subcommand_rows_of}
use Rattle.tokend.proofs.TaskOptions.{lacks_given, text_missing}
use Rattle.tokend.proofs.options.lacks_log.Goals as goal

pub returns-then-wants_log : goal.returns-then-wants_log
returns-then-wants_log c =
    lacks_given (subcommand_rows_of c.args.matches.now) (rows_of (found_of c.in-Some.values.now))
    c.is_none.result (search rules) (search rules)
    (search rules
    ∙ text_missing (found_of c.in-Some.values.now) (codes "log") c.get_str.result c.get_str.ensures)
