use Rattle.std.proofs.Common.{◌≡◌, IfOk, None, Some, codes, subst, rules}
use Rattle.clap.specs.Words.{found_of}
use Rattle.tokend.specs.Notices.{issuer_named}
use Rattle.tokend.proofs.TaskOptions.{by_text}
use Rattle.tokend.proofs.notices.read_issuer.Goals as goal

pub returns-in-Some : goal.returns-in-Some
returns-in-Some c =
    subst (λ y. IfOk c.issuer_named.result (λ read. read ≡ y))
    (by_text issuer_named (found_of c.args.matches.now) (codes "issuer") (Some c.in-Some.text.now)
    (search rules))
    c.issuer_named.ensures

pub returns-in-None : goal.returns-in-None
returns-in-None c =
    by_text issuer_named (found_of c.args.matches.now) (codes "issuer") None (search rules)
