use Rattle.std.proofs.Common.{ℕ, length, take, arith, length-drop, ap, sym, subst}
use Rattle.std.proofs.KnownBytes.{Appends-kept}
use Rattle.std.specs.Io.KnownBytes.{Appends}
use Rattle.tk_put.proofs.Pieces.{put_step, front_taken}
use Rattle.tk_put.proofs.put.put.Goals as goal
use Rattle.tk_put.proofs.put.put.Goals.{in-Ok, in-Err+else-ne}

pub returns-in-Ok-eq0 : goal.returns-in-Ok-eq0
returns-in-Ok-eq0 g c =
    front_taken _ _ c.args.bytes.now _
    (put_step _ _ _ c.args.bytes.now c.rest_of-rest.result.now c.loop.written c.in-Ok-eq0.field-0
    c.rest_of-rest.ensures c.loop.invariant.so_far c.in-Ok-eq0.ensures.bytes)

pub returns-then-ne : goal.returns-then-ne
returns-then-ne g c = front_taken _ _ c.args.bytes.now c.loop.written
    (Appends-kept _ _ _ _ c.loop.invariant.so_far c.in-Err.ensures.bytes)

pub loop-preserved : goal.loop-preserved
loop-preserved g c =
    let left = length-drop c.loop.written c.args.bytes.now in
    let rest = ap length c.rest_of-rest.ensures in
    elim c.match-write.branch [
      | in-Ok w ↦ record {
        within =
            omega (arith, w.written-is, w.in-Ok.ensures.bound, left, rest, c.loop.invariant.within);
        so_far = subst (λ (n : ℕ).
            Appends (g.O.Write.contents c.args.output.now) (g.O.Write.contents c.write.new.self)
            (take n c.args.bytes.now)) (sym w.written-is)
            (put_step _ _ _ c.args.bytes.now c.rest_of-rest.result.now c.loop.written w.in-Ok.count
            c.rest_of-rest.ensures c.loop.invariant.so_far w.in-Ok.ensures.bytes);
      }
      | in-Err+else-ne w ↦ record {
        within = omega (arith, w.written-is, c.loop.invariant.within);
        so_far = subst (λ (n : ℕ).
            Appends (g.O.Write.contents c.args.output.now) (g.O.Write.contents c.write.new.self)
            (take n c.args.bytes.now)) (sym w.written-is)
            (Appends-kept _ _ _ _ c.loop.invariant.so_far w.in-Err.ensures.bytes);
      }
    ]

pub returns : goal.returns
returns g c = front_taken _ _ c.args.bytes.now c.loop.written c.loop.invariant.so_far
