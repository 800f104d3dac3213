use Rattle.std.proofs.Common.{◌≡◌, ◌+◌, ◌==◌, length}
use Rattle.std.specs.List.{position_or_len}
use Rattle.tk_edge.proofs.path.place_of.Given as goal

abbrev pub invariant-bytes : goal.invariant-bytes
invariant-bytes l = record {
  place : l.at + position_or_len (λ b. b == l.value) l.rest
      ≡ position_or_len (λ b. b == l.value) l.bytes;
  within : l.at + length l.rest ≡ length l.bytes;
}

abbrev pub decreases-bytes : goal.decreases-bytes
decreases-bytes l = length l.rest
