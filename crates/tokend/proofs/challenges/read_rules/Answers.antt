use Rattle.std.proofs.Common.{None, Some, codes, rules, ◌∙◌}
use Rattle.clap.specs.Words.{found_of}
use Rattle.tokend.specs.Challenges.{rules_named}
use Rattle.tokend.proofs.TaskOptions.{by_text}
use Rattle.tokend.proofs.challenges.read_rules.Goals as goal

pub returns-in-Some : goal.returns-in-Some
returns-in-Some c = search rules
    ∙ by_text rules_named (found_of c.args.matches.now) (codes "challenge")
    (Some c.in-Some.text.now) (search rules)

pub returns-in-None : goal.returns-in-None
returns-in-None c =
    by_text rules_named (found_of c.args.matches.now) (codes "challenge") None (search rules)
