use Rattle.std.proofs.Common.{sym, ap, ◌∙◌}
use Rattle.tk_family.specs.Children.{first_user}
use Rattle.tk_family.proofs.ChildLaws.{span_is}
use Rattle.tk_family.proofs.children.first_user.Goals as goal

pub returns-in-Some : goal.returns-in-Some
returns-in-Some c = ap first_user
    (sym c.in-Some.ensures.steps
    ∙ (c.range-users.ensures.between tt
    ∙ span_is c.args.others.now c.args.token.now c.span-first.result.0 c.span-first.result.1
    c.span-first.ensures.first c.span-first.ensures.last))

pub returns-in-None : goal.returns-in-None
returns-in-None c = ap first_user
    (sym c.in-None.ensures.steps.0
    ∙ (c.range-users.ensures.between tt
    ∙ span_is c.args.others.now c.args.token.now c.span-first.result.0 c.span-first.result.1
    c.span-first.ensures.first c.span-first.ensures.last))
