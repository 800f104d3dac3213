use Rattle.std.proofs.Common.{rules}
use Rattle.std.proofs.Math.Seq.{take-add}
use Rattle.std.proofs.lemmas.List.{take_rest}
use Rattle.std.proofs.KnownBytes.{Appends-kept, Appends-trans}
use Rattle.tk_put.proofs.Pieces.{front_taken}
use Rattle.tk_edge.proofs.put.put_whole.Goals as goal

pub pieces-preserved : goal.pieces-preserved
pieces-preserved g c = record {
  within = search rules;
  bytes =
      let one = rw (take_rest c.args.bytes.now c.pieces.at) at c.in-Ok.ensures.bytes in
      rw (take-add c.pieces.at c.in-Ok.count c.args.bytes.now)
      (Appends-trans _ _ _ _ _ c.pieces.invariant.bytes one);
  same = search rules;
}

pub returns-in-Err-clause-bytes : goal.returns-in-Err-clause-bytes
returns-in-Err-clause-bytes g c =
    front_taken _ _ c.args.bytes.now c.pieces.at
    (Appends-kept _ _ _ _ c.pieces.invariant.bytes c.in-Err.ensures.bytes)
