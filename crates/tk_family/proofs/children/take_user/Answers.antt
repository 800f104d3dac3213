use Rattle.std.proofs.Common.{sym, ◌∙◌}
use Rattle.tk_family.proofs.ChildLaws.{first_listed, takes_none}
use Rattle.tk_family.proofs.children.take_user.Goals as goal

pub returns-in-Some : goal.returns-in-Some
returns-in-Some c = (
  first_listed c.args.others.now c.args.token.now c.in-Some.child
      (sym c.first_user-user.ensures ∙ c.in-Some.is),
  c.drop_child.ensures,
)

pub returns-in_default : goal.returns-in_default
returns-in_default c = takes_none c.args.others.now c.args.token.now c.first_user-user.result
    c.requires c.first_user-user.ensures c.in_default.is
