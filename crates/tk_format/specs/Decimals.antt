-- Numbers as texts of decimal digits (own).
--   IsDecimalOf    a text is the decimal of a number that fits 64 bits
--   IsNoDecimal    a text is the decimal of no such number
--   decimal_in     the number whose decimal a text is
use Rattle.std.specs.Prelude.{◌≡◌, ℕ, ◌^◌, ◌<◌, ◌&&◌, nat_lt, if◌then◌else◌, List, decimal, Option}
use Rattle.std.specs.Prelude.{Some, None}
use Rattle.std.specs.Str.{bytes_eq}
use Rattle.std.specs.Str.Parse.{digits_value}

-- the text is the decimal of n: no sign, and a leading zero only in 0 itself
pub record IsDecimalOf (text : List ℕ) (n : ℕ) : Type 0 where
  pub fits : n < 2 ^ 64
  pub spelled : text ≡ decimal n

-- the text is the decimal of no number
abbrev pub IsNoDecimal : List ℕ → Type 0
IsNoDecimal text = (n : ℕ) → ¬ (IsDecimalOf text n)

-- the number whose decimal the text is: the value of the digits, if their decimal is the text again
abbrev pub decimal_in : List ℕ → Option ℕ
decimal_in text =
    let n = digits_value 10 text in
    if nat_lt n (2 ^ 64) && bytes_eq (decimal n) text then Some n else None
