use Rattle.std.proofs.Common.{length}
use Rattle.tokend.proofs.facts.+print_each.Given as goal

-- each call has one name fewer
abbrev pub decreases-print_each : goal.decreases-print_each
decreases-print_each g l = length l.names.now
