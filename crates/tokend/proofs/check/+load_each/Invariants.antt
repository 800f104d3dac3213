use Rattle.std.proofs.Common.{length}
use Rattle.tokend.proofs.check.+load_each.Given as goal

-- each call has one name fewer
abbrev pub decreases-load_each : goal.decreases-load_each
decreases-load_each g l = length l.names.now
