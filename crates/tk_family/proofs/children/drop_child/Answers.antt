use Rattle.std.proofs.Common.{false, cond, ap, ◌∙◌}
use Rattle.std.specs.BTreeMap.{is_at}
use Rattle.tk_family.specs.declared.children.Child.{Child}
use Rattle.tk_family.specs.Children.{child_cmp, child_key, others_in}
use Rattle.tk_family.proofs.children.drop_child.Goals as goal

pub returns : goal.returns
returns c = λ k e. c.remove.ensures.updates.0 (child_key k e)
    ∙ ap (λ (x : Child).
    cond (is_at (child_cmp x) (child_key k e)) false (others_in c.args.others.now k e))
    c.key.ensures
