use Rattle.std.proofs.Common.{rules}
use Rattle.tk_bundle.proofs.NewsLaws.{version_kept}
use Rattle.tk_bundle.proofs.changes.version_kept.Goals as goal

pub returns : goal.returns
returns c = rw (← version_kept c.args.store.now.slots c.args.sent.now c.requires) (search rules)
