use Rattle.std.proofs.Common.{None, Some, codes, rules, ◌∙◌}
use Rattle.clap.specs.Words.{first_of, found_of, rows_of}
use Rattle.tokend.specs.Ranges.{range_named}
use Rattle.tokend.proofs.TaskOptions.{by_text}
use Rattle.tokend.proofs.ranges.read_range.Goals as goal

pub returns-in-Some : goal.returns-in-Some
returns-in-Some c =
    c.range_named.ensures
    ∙ by_text (λ own. range_named own (Some c.in-Some.text.now)) (found_of c.args.matches.now)
    (codes "region") _ c.get_str-in-Some.ensures
    ∙ by_text (range_named (first_of (codes "region") (rows_of (found_of c.args.matches.now))))
    (found_of c.args.matches.now) (codes "range") (Some c.in-Some.text.now) (search rules)

pub returns-in-None : goal.returns-in-None
returns-in-None c =
    by_text (range_named (first_of (codes "region") (rows_of (found_of c.args.matches.now))))
    (found_of c.args.matches.now) (codes "range") None (search rules)
