-- The parts of a log (own): the files in which it goes on, each with a number.
--   part_name    the name of a part
--   joined       known bytes, one behind the other
--   IsEmptyBehind   a file behind closed parts is empty
use Rattle.std.specs.Prelude.{◌≡◌, ⊤, ℕ, ◌+◌, ◌-◌, ◌/◌, ◌%◌, List, [], ◌∷◌, ◌++◌, length, take}
use Rattle.std.specs.Prelude.{Option, Some, None}
use Rattle.std.specs.Path.{path_extension}

-- the digit of a number at a power of ten
abbrev pub digit_at : ℕ → ℕ → ℕ
digit_at power n = 48 + n / power % 10

-- the last four digits of a number
abbrev pub four_digits : ℕ → List ℕ
four_digits n = digit_at 1000 n ∷ digit_at 100 n ∷ digit_at 10 n ∷ digit_at 1 n ∷ []

-- a name with the number before its extension, or behind a name that has none
abbrev pub numbered : List ℕ → ℕ → Option (List ℕ) → List ℕ
numbered name n None = name ++ 46 ∷ four_digits n
numbered name n (Some extension) =
    take (length name - length extension) name ++ (four_digits n ++ 46 ∷ extension)

-- the name of the part with this number of a log
abbrev pub part_name : List ℕ → ℕ → List ℕ
part_name log n = numbered log n (path_extension log)

-- the first bytes and the others behind them, if both are known
abbrev pub joined : Option (List ℕ) → Option (List ℕ) → Option (List ℕ)
joined (Some first) (Some others) = Some (first ++ others)
joined known other = None

-- if the bytes of the closed parts are known, so are those of a file behind them: it has none yet
abbrev pub IsEmptyBehind : Option (List ℕ) → Option (List ℕ) → Type 0
IsEmptyBehind None bytes = ⊤
IsEmptyBehind (Some closed) bytes = bytes ≡ Some []
