-- What printing an input leaves (own).
--   IsOver        an end of bytes behind which no bundle or vector is begun, or one is cut
--   EndsAt        how printing whole bundles and vectors may end
--   PrintsFirst   how printing the first bundle or vector may end
--   PrintsPiece   how printing a bundle or vector may end
--   PrintsWhole   how printing the bundles and vectors at the front of bytes may end
--   outcome       where reading goes on, or the fault that ends it
--   ReadsMore     what one read brings
--   PrintsMore    how printing the bytes of a buffer may end
--   PrintsInput   how printing an input may end
use Rattle.std.specs.Prelude.{◌≡◌, ◌⊎◌, ℕ, ◌+◌, ◌≤◌, Bool, false, List, [], ◌++◌, length, drop}
use Rattle.std.specs.Prelude.{Option, Some, None, Result, Ok, Err, IfSome}
use Rattle.std.specs.Io.KnownBytes.{Appends, Consumes, IsAtEnd, Keeps}
use Rattle.tk_put.specs.Put.{AppendsFront}
use Rattle.tk_listing.specs.Pieces.{IsBad, IsCut, IsFront, Shows, piece_lines}
use Rattle.tk_listing.specs.declared.piece.Piece.{Piece}
use Rattle.tk_listing.specs.declared.print.End.{End}
use Rattle.tk_listing.specs.declared.print.End.TheVariants as ends
use Rattle.tk_listing.specs.declared.print.Step.{Step}
use Rattle.tk_listing.specs.declared.print.Step.TheVariants as step
use Rattle.tk_listing.specs.declared.print.PrintFault.{PrintFault}
use Rattle.tk_listing.specs.declared.print.PrintFault.TheVariants.{CannotRead, Malformed, Memory}
use Rattle.tk_listing.specs.declared.print.PrintFault.TheVariants.{Output}

-- no byte is left, or the bytes end before a bundle or vector does
abbrev pub IsOver : List ℕ → Type 0
IsOver rest = (rest ≡ []) ⊎ IsCut rest

-- how printing whole bundles and vectors may end, with their lines and the rest of the bytes
abbrev pub EndsAt : End → List ℕ → List ℕ → Option (List ℕ) → Option (List ℕ) → Type 0
EndsAt ends.More rest lines old new = IsOver rest × Appends old new lines
EndsAt ends.Malformed rest lines old new = IsBad rest × Appends old new lines
EndsAt ends.Memory rest lines old new = Appends old new lines
EndsAt ends.Output rest lines old new = AppendsFront old new lines

-- how printing the first bundle or vector may end
abbrev pub PrintsFirst : List ℕ → Step → Option (List ℕ) → Option (List ℕ) → Type 0
PrintsFirst bytes (step.Printed n) old new =
    (piece : Piece) × IsFront bytes piece n × Appends old new (piece_lines piece)
PrintsFirst bytes (step.Failed n) old new =
    (piece : Piece) × IsFront bytes piece n × AppendsFront old new (piece_lines piece)
PrintsFirst bytes step.Cut old new = IsCut bytes × Keeps old new
PrintsFirst bytes step.Malformed old new = IsBad bytes × Keeps old new
PrintsFirst bytes step.Memory old new = Keeps old new

-- how printing a bundle or vector with this number of bytes may end
abbrev pub PrintsPiece : Piece → ℕ → Step → Option (List ℕ) → Option (List ℕ) → Type 0
PrintsPiece piece count (step.Printed n) old new =
    (n ≡ count) × Appends old new (piece_lines piece)
PrintsPiece piece count (step.Failed n) old new =
    (n ≡ count) × AppendsFront old new (piece_lines piece)
PrintsPiece piece count step.Cut old new = ⊥
PrintsPiece piece count step.Malformed old new = ⊥
PrintsPiece piece count step.Memory old new = Keeps old new

-- the bundles and vectors at the front of the bytes are printed
pub record PrintsWhole (bytes : List ℕ) (used : ℕ) (end : End) (old new : Option (List ℕ))
    : Type 0 where
  pub within : used ≤ length bytes
  pub lines : List ℕ
  pub shows : Shows bytes (drop used bytes) lines
  pub ends : EndsAt end (drop used bytes) lines old new

-- the offset at which reading goes on, or the fault that ends it, if there are too many bytes too
abbrev pub outcome : End → Option ℕ → Result ℕ PrintFault
outcome ends.More (Some place) = Ok place
outcome ends.More None = Err CannotRead
outcome ends.Malformed (Some place) = Err (Malformed place)
outcome ends.Malformed None = Err CannotRead
outcome ends.Memory place = Err Memory
outcome ends.Output place = Err Output

-- one read: its bytes come behind those of the buffer; no byte is read at the end alone
abbrev pub ReadsMore : Bool → Option (List ℕ) → Option (List ℕ) → List ℕ → List ℕ → Type 0
ReadsMore more old new before after =
    (bytes : List ℕ) × Consumes old new bytes × (after ≡ before ++ bytes)
    × (more ≡ false → (bytes ≡ []) × IsAtEnd new)

-- the input failed, or memory ran out
abbrev pub IsReadFault : PrintFault → Type 0
IsReadFault fault = (fault ≡ CannotRead) ⊎ (fault ≡ Memory)

-- the rest at its offset, unless memory ran out, or the fault that ends reading
abbrev pub IsLeft : Result ℕ PrintFault → List ℕ → Result (List ℕ × ℕ) PrintFault → Type 0
IsLeft (Ok place) rest result = (result ≡ Ok (rest, place)) ⊎ (result ≡ Err Memory)
IsLeft (Err fault) rest result = result ≡ Err fault

-- the bytes of a buffer at this offset are printed as far as they are whole
pub record PrintsMore (buffer : List ℕ) (offset : ℕ) (result : Result (List ℕ × ℕ) PrintFault)
    (old new : Option (List ℕ)) : Type 0 where
  pub used : ℕ
  pub end : End
  pub place : Option ℕ
  pub whole : PrintsWhole buffer used end old new
  pub at : IfSome place (λ p. p ≡ offset + used)
  pub left : IsLeft (outcome end place) (drop used buffer) result

-- The end of printing what was seen of an input: the lines of its bundles and vectors, and the rest
abbrev pub Ends : Option (List ℕ) → Result ℕ PrintFault → List ℕ → List ℕ → List ℕ
    → Option (List ℕ) → Option (List ℕ) → Type 0
-- all of the input was seen, and all its lines were written; a cut end is counted
Ends known (Ok cut) seen rest lines old new =
    IfSome known (λ input. input ≡ seen) × IsOver rest × (cut ≡ length rest)
    × Appends old new lines
-- at this offset is no bundle and no vector; the lines before it were written
Ends known (Err (Malformed offset)) seen rest lines old new =
    IsBad rest × (offset + length rest ≡ length seen) × Appends old new lines
Ends known (Err CannotRead) seen rest lines old new = Appends old new lines
Ends known (Err Memory) seen rest lines old new = Appends old new lines
-- a beginning of the lines was written
Ends known (Err Output) seen rest lines old new = AppendsFront old new lines

-- the bytes are the beginning of an input that is known
abbrev pub IsSeen : Option (List ℕ) → List ℕ → Type 0
IsSeen known seen = IfSome known (λ input. (later : List ℕ) × (input ≡ seen ++ later))

-- how printing an input may end: lines of what was seen of it are written
pub record PrintsInput (known : Option (List ℕ)) (result : Result ℕ PrintFault)
    (old new : Option (List ℕ)) : Type 0 where
  pub seen : List ℕ
  pub rest : List ℕ
  pub lines : List ℕ
  pub begins : IsSeen known seen
  pub shows : Shows seen rest lines
  pub ends : Ends known result seen rest lines old new
