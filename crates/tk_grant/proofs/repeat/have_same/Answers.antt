use Rattle.std.proofs.Common.{◌∙◌}
use Rattle.tk_grant.proofs.RepeatLaws.{same_among}
use Rattle.tk_grant.proofs.repeat.have_same.Goals as goal

pub returns : goal.returns
returns c = c.all_same.ensures ∙ same_among c.args.names.now c.args.earlier.now c.args.params.now
