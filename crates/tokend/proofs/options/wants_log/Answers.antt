use Rattle.std.proofs.Common.{rules, codes, ◌∙◌}
use Rattle.clap.specs.Words.{found_of, rows_of}
use Rattle.tokend.proofs.TaskOptions.{text_found}
use Rattle.tokend.proofs.MissingOptions.{wants_parts}
use Rattle.tokend.proofs.options.wants_log.Goals as goal

pub returns-else-flag : goal.returns-else-flag
returns-else-flag c =
    wants_parts (rows_of (found_of c.args.matches.now)) c.is_some.result (search rules)
    (search rules
    ∙ text_found (found_of c.args.matches.now) (codes "log-part") c.get_str.result
    c.get_str.ensures)
