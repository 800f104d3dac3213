use Rattle.std.proofs.Common.{sym, ap, ◌∙◌, List, length, take}
use Rattle.tk_family.specs.declared.children.Child.{Child}
use Rattle.tk_family.proofs.ChildLaws.{span_is, one_user, two_users}
use Rattle.tk_family.proofs.children.users_up_to_two.Goals as goal

pub returns-in-None-clause-count : goal.returns-in-None-clause-count
returns-in-None-clause-count c = ap (λ (cs : List Child). length (take 2 cs))
    (sym c.in-None.ensures.steps.0
    ∙ (c.range-users.ensures.between tt
    ∙ span_is c.args.others.now c.args.token.now c.span-first.result.0 c.span-first.result.1
    c.span-first.ensures.first c.span-first.ensures.last))

pub returns-in-None-next-clause-count : goal.returns-in-None-next-clause-count
returns-in-None-next-clause-count c =
    one_user c.range-users.result c.next.new.self c.in-Some.field-0.now c.in-Some.ensures.steps
    c.in-None-next.ensures.steps.0
    ∙ ap (λ (cs : List Child). length (take 2 cs))
    (c.range-users.ensures.between tt
    ∙ span_is c.args.others.now c.args.token.now c.span-first.result.0 c.span-first.result.1
    c.span-first.ensures.first c.span-first.ensures.last)

pub returns-in-Some-next-clause-count : goal.returns-in-Some-next-clause-count
returns-in-Some-next-clause-count c =
    two_users c.range-users.result c.next.new.self c.next-in-Some.new.self c.in-Some.field-0.now
    c.in-Some-next.field-0.now c.in-Some.ensures.steps c.in-Some-next.ensures.steps
    ∙ ap (λ (cs : List Child). length (take 2 cs))
    (c.range-users.ensures.between tt
    ∙ span_is c.args.others.now c.args.token.now c.span-first.result.0 c.span-first.result.1
    c.span-first.ensures.first c.span-first.ensures.last)
