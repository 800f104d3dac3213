-- What writing leaves of an output whose bytes are known, and the text of pieces (own).
--   AppendsFront   the output grew by the beginning of a text
--   Prints         the output grew by a text, or by its beginning if the output failed
--   joined_text    the text of pieces, joined in order
--   field_line     the line of a field of a head (RFC 9112, 5)
use Rattle.std.specs.Prelude.{◌≡◌, ℕ, List, [], ◌∷◌, ◌++◌, codes}
use Rattle.std.specs.Prelude.{Option, None, Some, Result, MatchResult}
use Rattle.std.specs.Borrow.{Bor}
use Rattle.std.specs.Io.KnownBytes.{Appends}
use Rattle.std.specs.List.{concat}

-- the output grew by the beginning of the text
pub record AppendsFront (old new : Option (List ℕ)) (text : List ℕ) : Type 0 where
  pub front : List ℕ
  pub rest : List ℕ
  pub parts : text ≡ front ++ rest
  pub appended : Appends old new front

-- the output grew by the text, or by its beginning if the output failed
abbrev pub Prints : {A E : Type 0} → Result A E → Option (List ℕ) → Option (List ℕ) → List ℕ
    → Type 0
Prints result old new text =
    MatchResult result (λ _. Appends old new text) (λ _. AppendsFront old new text)

-- the text of pieces, joined in order
abbrev pub joined_text : List (Bor (List ℕ)) → List ℕ
joined_text [] = []
joined_text (piece ∷ pieces) = piece.now ++ joined_text pieces

-- the line of a field, if the field has a value; the name ends in a colon and a space
abbrev pub field_line : List ℕ → Option (List ℕ) → List ℕ
field_line name None = []
field_line name (Some value) = concat (name ∷ value ∷ codes "\r\n" ∷ [])
