use Rattle.std.proofs.Common.{length}
use Rattle.tk_bundle.proofs.changes.+newest_kept.Given as goal

abbrev pub decreases-newest_kept : goal.decreases-newest_kept
decreases-newest_kept l = length l.items.now
