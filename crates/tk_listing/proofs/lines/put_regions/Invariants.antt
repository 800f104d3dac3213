use Rattle.std.proofs.Common.{◌≡◌, ◌≤◌, ◌++◌}
use Rattle.tk_listing.specs.Lines.{lines_up_to}
use Rattle.tk_listing.proofs.lines.put_regions.Given as goal

abbrev pub invariant-loop-before : goal.invariant-loop-before
invariant-loop-before l =
    (l.before ≤ 65535) × (l.writer ≡ l.fn.writer ++ lines_up_to l.vector l.before)
