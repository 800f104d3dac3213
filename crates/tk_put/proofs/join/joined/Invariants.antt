use Rattle.std.proofs.Common.{◌≡◌, take}
use Rattle.tk_put.specs.Put.{joined_text}
use Rattle.tk_put.proofs.join.joined.Given as goal

-- the pieces so far are joined
abbrev pub invariant-loop-piece : goal.invariant-loop-piece
invariant-loop-piece l = l.bytes.items ≡ joined_text (take l.piece-index l.pieces)
