use Rattle.tk_put.proofs.Pieces.{put_more, put_failed}
use Rattle.tk_put.proofs.put.put_all.Goals as goal

pub returns-in-Err : goal.returns-in-Err
returns-in-Err g c = put_failed _ _ _ c.args.pieces.now c.loop-piece.piece-index _
    c.loop-piece-test.true c.loop-piece.invariant c.in-Err.ensures

pub loop-piece-preserved : goal.loop-piece-preserved
loop-piece-preserved g c = put_more _ _ _ c.args.pieces.now c.loop-piece.piece-index _
    c.loop-piece-test.true c.loop-piece.invariant c.in-Ok.ensures
