-- The numbers and texts that a line's fields stand for (own).
--   is_space         the byte between two fields of a line
--   region_in        the region whose number a text is
--   moment_in        the moment whose seconds a text is
--   IsCursorText     the text of a cursor: the dot above which a page begins, or the beginning
--   IsNoCursorText   the text of no cursor
use Rattle.std.specs.Prelude.{◌≡◌, ℕ, ◌==◌, Bool, if◌then◌else◌, List, codes, Option, Some, None}
use Rattle.tk_format.specs.Decimals.{decimal_in}
use Rattle.tk_handle.specs.declared.dot.Dot.{Dot}
use Rattle.tk_handle.specs.DotText.{IsDotText}
use Rattle.tk_handle.specs.Ranges.{is_region, is_moment}

-- the space, which is between two fields of a line
abbrev pub is_space : ℕ → Bool
is_space b = b == 32

-- the number, if there is one and the number passes the test
abbrev pub passing : (ℕ → Bool) → Option ℕ → Option ℕ
passing test None = None
passing test (Some n) = if test n then Some n else None

-- the number of a region, in decimal digits
abbrev pub region_in : List ℕ → Option ℕ
region_in text = passing is_region (decimal_in text)

-- the seconds of a moment, in decimal digits
abbrev pub moment_in : List ℕ → Option ℕ
moment_in text = passing is_moment (decimal_in text)

-- the text of a cursor: `-` for the beginning, or the text of a dot
abbrev pub IsCursorText : List ℕ → Option Dot → Type 0
IsCursorText text None = text ≡ codes "-"
IsCursorText text (Some d) = IsDotText text d

-- the text of no cursor
abbrev pub IsNoCursorText : List ℕ → Type 0
IsNoCursorText text = (after : Option Dot) → ¬ (IsCursorText text after)
