-- Numbers of any length as texts of decimal digits, compared with a limit. RFC 9110, 8.6 writes a
-- length so; the limit is own.
--   is_numeral       a text is one or more digits
--   numeral_up_to    what a text is as a number, compared with a limit
use Rattle.std.specs.Prelude.{ℕ, Bool, ◌&&◌, nat_lt, nat_le, if◌then◌else◌, List, length}
use Rattle.std.specs.Str.{all_ascii_digits}
use Rattle.std.specs.Str.Parse.{digits_value}
use Rattle.tk_format.specs.declared.numeral.Numeral.{Numeral}
use Rattle.tk_format.specs.declared.numeral.Numeral.TheVariants.{Malformed, Above, Within}

-- the text is one or more ASCII digits (RFC 9110, 8.6)
abbrev pub is_numeral : List ℕ → Bool
is_numeral text = nat_lt 0 (length text) && all_ascii_digits text

-- the text is malformed, or its number is above the limit, or at most the limit (RFC 9110, 8.6;
-- own)
abbrev pub numeral_up_to : ℕ → List ℕ → Numeral
numeral_up_to limit text =
    let n = digits_value 10 text in
    if is_numeral text then (if nat_le n limit then Within n else Above) else Malformed
