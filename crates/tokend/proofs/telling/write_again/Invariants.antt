use Rattle.std.specs.Io.KnownBytes.{Keeps}
use Rattle.tokend.proofs.telling.write_again.Given as goal

-- nothing is written so far
abbrev pub invariant-loop : goal.invariant-loop
invariant-loop g l = Keeps (g.W.Write.contents l.fn.output) (g.W.Write.contents l.output)
