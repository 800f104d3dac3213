use Rattle.std.proofs.Common.{◌≤◌, length, take}
use Rattle.std.specs.Io.KnownBytes.{Appends}
use Rattle.tk_put.proofs.put.put.Given as goal

-- the first bytes so far are written
abbrev pub invariant-loop : goal.invariant-loop
invariant-loop g l = record {
  within : l.written ≤ length l.bytes;
  so_far : Appends (g.O.Write.contents l.fn.output) (g.O.Write.contents l.output)
      (take l.written l.bytes);
}
