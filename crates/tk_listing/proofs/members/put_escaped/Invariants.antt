use Rattle.std.proofs.Common.{◌≡◌, ◌++◌, take}
use Rattle.std.specs.List.{flat_map}
use Rattle.tk_listing.specs.Members.{escaped}
use Rattle.tk_listing.proofs.members.put_escaped.Given as goal

abbrev pub invariant-loop-byte : goal.invariant-loop-byte
invariant-loop-byte l = l.writer ≡ l.fn.writer ++ flat_map escaped (take l.byte-index l.text)
