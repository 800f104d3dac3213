use Rattle.std.proofs.Common.{rules, ◌∙◌}
use Rattle.clap.specs.Words.{found_of}
use Rattle.tokend.proofs.TaskOptions.{unplaced_else, unplaced_then}
use Rattle.tokend.proofs.address.is_unplaced_in.Goals as goal

pub returns-then-is_some : goal.returns-then-is_some
returns-then-is_some c =
    search rules
    ∙ unplaced_then (found_of c.args.matches.now) c.get_str.result c.get_str-2.result
    c.get_str.ensures c.get_str-2.ensures (search rules)

pub returns-else-is_some : goal.returns-else-is_some
returns-else-is_some c =
    search rules
    ∙ unplaced_else (found_of c.args.matches.now) c.get_str.result c.get_str-2.result
    c.get_str.ensures c.get_str-2.ensures (search rules)
