-- The text of a dot: its region and its serial in decimals, parted by one byte (own). Scripts and
-- vectors write `R:S`. The ids of clients and of consents write `R-S` behind a letter.
--   dot_text      R:S, the text of a dot
--   IsDotText     a text is the text of a dot; IsNoDotText, of no dot
--   id_text       the id of a dot: a letter, and R-S
--   IsIdText      a text is the id of a dot behind a letter; IsNoIdText, of no dot
--   ReadsId       a reading gives the dot of an id, and nothing for any other text
--   id_in         the dot whose id a text is
use Rattle.std.specs.Prelude.{◌≡◌, ℕ, ◌&&◌, ◌==◌, if◌then◌else◌, List, [], ◌∷◌, ◌++◌, decimal}
use Rattle.std.specs.Prelude.{Option, Some, None}
use Rattle.std.specs.List.{before_first, after_first}
use Rattle.tk_format.specs.Decimals.{decimal_in}
use Rattle.tk_handle.specs.declared.dot.Dot.{Dot}
use Rattle.tk_handle.specs.Dot.{IsDot}
use Rattle.tk_handle.specs.Ranges.{is_region, is_serial}

-- the byte `b':'`
abbrev pub colon : ℕ
colon = 58

-- the byte `b'-'`
abbrev pub dash : ℕ
dash = 45

-- a dot as a text: the region, the byte `mark`, and the serial, in decimals without leading zeros
abbrev pub parted_text : ℕ → Dot → List ℕ
parted_text mark d = decimal d.region ++ (mark ∷ decimal d.serial)

-- R:S, the text of a dot
abbrev pub dot_text : Dot → List ℕ
dot_text d = parted_text colon d

-- the id of a dot: a letter, and R-S
abbrev pub id_text : ℕ → Dot → List ℕ
id_text letter d = letter ∷ parted_text dash d

-- the text is that of a dot in range, with `mark` between its numbers
pub record IsPartedText (mark : ℕ) (text : List ℕ) (d : Dot) : Type 0 where
  pub range : IsDot d
  pub spelled : text ≡ parted_text mark d

-- the text is R:S of the dot
abbrev pub IsDotText : List ℕ → Dot → Type 0
IsDotText text d = IsPartedText colon text d

-- the text is R:S of no dot
abbrev pub IsNoDotText : List ℕ → Type 0
IsNoDotText text = (d : Dot) → ¬ (IsDotText text d)

-- the text is the id of a dot in range, behind the letter
pub record IsIdText (letter : ℕ) (text : List ℕ) (d : Dot) : Type 0 where
  pub range : IsDot d
  pub spelled : text ≡ id_text letter d

-- the text is the id of no dot behind the letter
abbrev pub IsNoIdText : ℕ → List ℕ → Type 0
IsNoIdText letter text = (d : Dot) → ¬ (IsIdText letter text d)

-- a reading gives the dot of an id behind the letter, and nothing for any other text
abbrev pub ReadsId : ℕ → List ℕ → Option Dot → Type 0
ReadsId letter text (Some d) = IsIdText letter text d
ReadsId letter text None = IsNoIdText letter text

-- ---- what `R:S` and ids are read as

-- the dot of a region and a serial, if both are present and in range
abbrev pub dot_at : Option ℕ → Option ℕ → Option Dot
dot_at None serial = None
dot_at (Some r) None = None
dot_at (Some r) (Some s) =
    if is_region r && is_serial s then Some (record { region = r; serial = s }) else None

-- the dot of the numbers before and behind the first `mark`
abbrev pub parted_in : ℕ → List ℕ → Option Dot
parted_in mark text =
    dot_at (decimal_in (before_first (λ b. b == mark) text))
    (decimal_in (after_first (λ b. b == mark) text))

-- the dot whose id behind the letter the text is
abbrev pub id_in : ℕ → List ℕ → Option Dot
id_in letter [] = None
id_in letter (b ∷ rest) = if b == letter then parted_in dash rest else None
