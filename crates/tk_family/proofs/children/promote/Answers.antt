use Rattle.std.proofs.Common.{sym, ◌∙◌}
use Rattle.tk_handle.specs.declared.kind.Kind.TheVariants as kind
use Rattle.tk_family.specs.Children.{token_at, others_in}
use Rattle.tk_family.proofs.ChildLaws.{promotes_second}
use Rattle.tk_family.proofs.children.promote.Goals as goal

pub take_user-requires-in-None : goal.take_user-requires-in-None
take_user-requires-in-None c = λ e at. c.requires (token_at c.args.parent kind.Refresh) e
    (sym (c.in-None.ensures.1 (token_at c.args.parent kind.Refresh) e) ∙ at)

pub returns-in-None : goal.returns-in-None
returns-in-None c = promotes_second (others_in c.args.others.now) (others_in c.take_user.new.others)
    (others_in c.take_user-in-None.new.others) c.args.parent c.take_user-in-None.result
    c.in-None.ensures.0 c.in-None.ensures.1 c.take_user-in-None.ensures
