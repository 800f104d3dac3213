use Rattle.std.proofs.Common.{length}
use Rattle.tk_bundle.proofs.changes.+write_kept.Given as goal

abbrev pub decreases-write_kept : goal.decreases-write_kept
decreases-write_kept l = length l.items.now
