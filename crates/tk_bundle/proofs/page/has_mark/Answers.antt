use Rattle.std.proofs.Common.{◌∙◌}
use Rattle.tk_bundle.proofs.PageLaws.{marks_at}
use Rattle.tk_bundle.proofs.page.has_mark.Goals as goal

pub returns : goal.returns
returns c = c.has_skipped.ensures ∙ marks_at c.args.store.now.slots c.args.dots.now
