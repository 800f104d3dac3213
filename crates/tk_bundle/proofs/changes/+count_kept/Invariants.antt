use Rattle.std.proofs.Common.{length}
use Rattle.tk_bundle.proofs.changes.+count_kept.Given as goal

abbrev pub decreases-count_kept : goal.decreases-count_kept
decreases-count_kept l = length l.items.now
