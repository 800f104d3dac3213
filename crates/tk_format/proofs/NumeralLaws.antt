-- Digits of a number of any length. Key results:
--   digit_in         each byte of a text of digits is a digit
--   one_digit_more   the value of one digit more, cut at the limit `most`
use Rattle.std.proofs.Common.{◌≡◌, ℕ, ◌+◌, ◌*◌, ◌<◌, List, [], ◌∷◌, length, take, get_or, true}
use Rattle.std.proofs.Common.{arith, min, rules, zero, suc}
use Rattle.std.specs.Char.{digit_value, is_ascii_digit}
use Rattle.std.specs.Str.{all_ascii_digits}
use Rattle.std.specs.Str.Parse.{digits_value}
use Rattle.std.proofs.lemmas.Int.Digits.{digits_value_more}

-- each byte of a text of digits is a digit
pub digit_in : (ds : List ℕ) (i : ℕ) → all_ascii_digits ds ≡ true → i < length ds
    → is_ascii_digit (get_or ds i 0) ≡ true
digit_in [] i e within = absurd (omega (arith, within))
digit_in (d ∷ ds) zero e within = search rules
digit_in (d ∷ ds) (suc i) e within = digit_in ds i (search rules) (omega (arith, within))

-- one turn of the loop: the value so far, ten times, plus the next digit, cut at `most`
pub one_digit_more : (ds : List ℕ) (i most value : ℕ) → i < length ds
    → value ≡ min (digits_value 10 (take i ds)) most
    → min (value * 10 + digit_value (get_or ds i 0)) most
    ≡ min (digits_value 10 (take (i + 1) ds)) most
one_digit_more ds i most value within e =
    let more = digits_value_more 10 ds i within in
    omega (arith, e, more)
