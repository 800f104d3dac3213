use Rattle.std.proofs.Common.{None, Some, codes, rules, ◌∙◌}
use Rattle.clap.specs.Words.{found_of}
use Rattle.tokend.specs.Kinds.{are_misnamed}
use Rattle.tokend.proofs.TaskOptions.{by_text}
use Rattle.tokend.proofs.kinds.are_kinds_misnamed.Goals as goal

pub returns-in-Some : goal.returns-in-Some
returns-in-Some c = search rules
    ∙ by_text are_misnamed (found_of c.args.matches.now) (codes "redirects")
    (Some c.in-Some.text.now) (search rules)

pub returns-in-None : goal.returns-in-None
returns-in-None c =
    by_text are_misnamed (found_of c.args.matches.now) (codes "redirects") None (search rules)
