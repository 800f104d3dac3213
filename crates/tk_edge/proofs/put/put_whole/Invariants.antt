use Rattle.std.proofs.Common.{length, ◌-◌, ◌≡◌, ◌≤◌, take}
use Rattle.std.specs.Io.KnownBytes.{Appends}
use Rattle.tk_edge.proofs.put.put_whole.Given as goal

abbrev pub invariant-pieces : goal.invariant-pieces
invariant-pieces g l = record {
  within : l.at ≤ length l.bytes;
  bytes : Appends (g.S.Sink.holds l.initial.sink) (g.S.Sink.holds l.sink) (take l.at l.bytes);
  same : g.S.Sink.failed l.sink ≡ g.S.Sink.failed l.initial.sink;
}

abbrev pub decreases-pieces : goal.decreases-pieces
decreases-pieces g l = length l.bytes - l.at
