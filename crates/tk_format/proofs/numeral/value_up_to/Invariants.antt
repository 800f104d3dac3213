use Rattle.std.proofs.Common.{◌≡◌, ◌≤◌, length, min, take}
use Rattle.std.specs.Str.Parse.{digits_value}
use Rattle.tk_format.proofs.numeral.value_up_to.Given as goal

abbrev pub invariant-loop-at : goal.invariant-loop-at
invariant-loop-at l = (l.at ≤ length l.text) × (l.value ≤ l.most)
    × (l.value ≡ min (digits_value 10 (take l.at l.text)) l.most)
