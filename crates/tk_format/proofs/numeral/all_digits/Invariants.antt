use Rattle.std.proofs.Common.{◌≡◌, length}
use Rattle.std.specs.Str.{all_ascii_digits}
use Rattle.tk_format.proofs.numeral.all_digits.Given as goal

abbrev pub invariant-bytes : goal.invariant-bytes
invariant-bytes l = all_ascii_digits l.rest ≡ all_ascii_digits l.text

abbrev pub decreases-bytes : goal.decreases-bytes
decreases-bytes l = length l.rest
