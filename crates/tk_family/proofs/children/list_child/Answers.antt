use Rattle.std.proofs.Common.{true, cond, ap, ◌∙◌}
use Rattle.std.specs.BTreeMap.{is_at}
use Rattle.tk_family.specs.declared.children.Child.{Child}
use Rattle.tk_family.specs.Children.{child_cmp, child_key, others_in}
use Rattle.tk_family.proofs.children.list_child.Goals as goal

pub returns-clause-ok : goal.returns-clause-ok
returns-clause-ok c = λ k e. c.in_ok-insert.ensures.updates.0 (child_key k e)
    ∙ ap (λ (x : Child).
    cond (is_at (child_cmp x) (child_key k e)) true (others_in c.args.others.now k e)) c.key.ensures
