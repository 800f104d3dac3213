use Rattle.std.proofs.Common.{◌≡◌, IfOk, List, None, Some, Vec, Global, codes, ap, subst, rules}
use Rattle.std.proofs.Common.{◌∙◌}
use Rattle.std.specs.Option.{option_map}
use Rattle.clap.specs.Words.{found_of}
use Rattle.tk_edge.specs.declared.terms.RegionRange.{RegionRange}
use Rattle.tokend.specs.Ranges.{accepted_named}
use Rattle.tokend.proofs.TaskOptions.{by_text}
use Rattle.tokend.proofs.ranges.read_accepted.Goals as goal

pub returns-in-Some : goal.returns-in-Some
returns-in-Some c =
    subst (λ y. IfOk c.ranges_of.result
    (λ read. option_map (λ (ranges : Vec RegionRange Global). ranges.items) read ≡ y))
    (by_text accepted_named (found_of c.args.matches.now) (codes "accept") (Some c.in-Some.text.now)
    (search rules))
    c.ranges_of.ensures

pub returns-in-None : goal.returns-in-None
returns-in-None c =
    ap (λ (l : List RegionRange). Some l) c.new.ensures.items
    ∙ by_text accepted_named (found_of c.args.matches.now) (codes "accept") None (search rules)
