use Rattle.std.proofs.Common.{take}
use Rattle.std.specs.Io.KnownBytes.{Appends}
use Rattle.tk_world.specs.Printed.{lines_text}
use Rattle.tk_world.proofs.print.print_outcomes.Given as goal

-- after each event so far, a line is written
abbrev pub invariant-loop-at : goal.invariant-loop-at
invariant-loop-at g l = Appends (g.O.Write.contents l.fn.output) (g.O.Write.contents l.output)
    (lines_text (take l.at l.events) (take l.at l.outcomes))
