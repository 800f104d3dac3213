use Rattle.std.proofs.Common.{rules}
use Rattle.tk_put.proofs.Pieces.{pieces_to}
use Rattle.tk_put.proofs.join.joined.Goals as goal

pub loop-piece-preserved : goal.loop-piece-preserved
loop-piece-preserved c = search (rules, pieces_to)
