use Rattle.std.proofs.Common.{sym, ◌∙◌}
use Rattle.tk_family.proofs.find.is_used.Goals as goal

pub returns-clause-used : goal.returns-clause-used
returns-clause-used c = (
  λ h. c.requires.used c.args.token (sym c.used_at.ensures ∙ h),
  λ u. c.used_at.ensures ∙ c.requires.uses c.args.token u,
)
