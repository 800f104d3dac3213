use Rattle.std.proofs.Common.{◌≡◌, ◌++◌, take}
use Rattle.std.specs.List.{flat_map}
use Rattle.tk_listing.specs.Members.{hex_byte}
use Rattle.tk_listing.proofs.members.put_digits.Given as goal

abbrev pub invariant-loop-byte : goal.invariant-loop-byte
invariant-loop-byte l = l.writer ≡ l.fn.writer ++ flat_map hex_byte (take l.byte-index l.bytes)
