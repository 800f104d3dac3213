use Rattle.tk_listing.proofs.Inputs.{Going}
use Rattle.tk_listing.proofs.print.print_lines.Given as goal

abbrev pub invariant-loop : goal.invariant-loop
invariant-loop g l =
    Going (g.I.Read.remaining l.fn.input) (g.I.Read.remaining l.input) l.buffer.items l.offset
    (g.O.Write.contents l.fn.output) (g.O.Write.contents l.output)
