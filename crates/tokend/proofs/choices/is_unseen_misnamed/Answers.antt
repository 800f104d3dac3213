use Rattle.std.proofs.Common.{None, Some, codes, rules, ◌∙◌}
use Rattle.clap.specs.Words.{found_of}
use Rattle.tokend.specs.Choices.{is_unseen_misnamed}
use Rattle.tokend.proofs.TaskOptions.{by_text}
use Rattle.tokend.proofs.choices.is_unseen_misnamed.Goals as goal

pub returns-in-Some : goal.returns-in-Some
returns-in-Some c = search rules
    ∙ by_text is_unseen_misnamed (found_of c.args.matches.now) (codes "revoke-unseen")
    (Some c.in-Some.text.now) (search rules)

pub returns-in-None : goal.returns-in-None
returns-in-None c = by_text is_unseen_misnamed (found_of c.args.matches.now)
    (codes "revoke-unseen") None (search rules)
