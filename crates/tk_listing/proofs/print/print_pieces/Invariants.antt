use Rattle.std.proofs.Common.{◌-◌, ◌≤◌, List, ℕ, length, drop}
use Rattle.std.specs.Io.KnownBytes.{Appends}
use Rattle.tk_listing.specs.Pieces.{Shows}
use Rattle.tk_listing.proofs.print.print_pieces.Given as goal

-- the bundles and vectors of the first bytes are printed
abbrev pub invariant-loop-used : goal.invariant-loop-used
invariant-loop-used g l =
    (l.used ≤ length l.bytes)
    × ((lines : List ℕ) × Shows l.bytes (drop l.used l.bytes) lines
    × Appends (g.O.Write.contents l.fn.output) (g.O.Write.contents l.output) lines)

abbrev pub decreases-loop-used : goal.decreases-loop-used
decreases-loop-used g l = length l.bytes - l.used
