use Rattle.std.proofs.Common.{◌≡◌, length}
use Rattle.tk_edge.specs.MediaType.{without_end}
use Rattle.tk_edge.proofs.media_type.trim_end.Given as goal

abbrev pub invariant-ends : goal.invariant-ends
invariant-ends l = without_end l.rest ≡ without_end l.text

abbrev pub decreases-ends : goal.decreases-ends
decreases-ends l = length l.rest
