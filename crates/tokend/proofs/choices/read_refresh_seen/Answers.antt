use Rattle.std.proofs.Common.{None, Some, codes, rules, ◌∙◌}
use Rattle.clap.specs.Words.{found_of}
use Rattle.tokend.specs.Choices.{refresh_seen_named}
use Rattle.tokend.proofs.TaskOptions.{by_text}
use Rattle.tokend.proofs.choices.read_refresh_seen.Goals as goal

pub returns-in-Some : goal.returns-in-Some
returns-in-Some c = search rules
    ∙ by_text refresh_seen_named (found_of c.args.matches.now) (codes "refresh-seen")
    (Some c.in-Some.text.now) (search rules)

pub returns-in-None : goal.returns-in-None
returns-in-None c = by_text refresh_seen_named (found_of c.args.matches.now)
    (codes "refresh-seen") None (search rules)
