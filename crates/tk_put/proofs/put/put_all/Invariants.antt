use Rattle.std.proofs.Common.{take}
use Rattle.std.specs.Io.KnownBytes.{Appends}
use Rattle.tk_put.specs.Put.{joined_text}
use Rattle.tk_put.proofs.put.put_all.Given as goal

-- the pieces so far are written
abbrev pub invariant-loop-piece : goal.invariant-loop-piece
invariant-loop-piece g l = Appends (g.O.Write.contents l.fn.output) (g.O.Write.contents l.output)
    (joined_text (take l.piece-index l.pieces))
