use Rattle.std.proofs.Common.{◌≡◌, ◌+◌, length}
use Rattle.tk_world.specs.Printed.{place_of}
use Rattle.tk_world.proofs.reply_parts.place_of.Given as goal

abbrev pub invariant-bytes : goal.invariant-bytes
invariant-bytes l = record {
  place : l.at + place_of l.mark l.rest ≡ place_of l.mark l.bytes;
  within : l.at + length l.rest ≡ length l.bytes;
}

abbrev pub decreases-bytes : goal.decreases-bytes
decreases-bytes l = length l.rest
