-- The bytes of pieces (own): each is behind its length.
--   run_kind        the number that shows that a piece is a run
--   max_run_items   the greatest number of items that pieces spell
--   run             the format of a run: its first dot, its number, its last serial
--   piece_bytes     the bytes of a piece
--   piece           the format of a piece behind its length
--   pieced_items    the format of items that are spelled by pieces
--   GetsPiece       what a reader of a piece may return
use Rattle.std.specs.Prelude.{◌≡◌, ℕ, Bool, true, false, ◌&&◌, ◌==◌, nat_le, nat_lt, List, []}
use Rattle.std.specs.Prelude.{◌∷◌, length, slice_get, Option, Some, None, Result, Ok, Err}
use Rattle.std.specs.Prelude.{if◌then◌else◌}
use Rattle.std.specs.Int.{w16}
use Rattle.std.specs.Option.{option_map, option_map_or}
use Rattle.tk_format.specs.declared.error.ReadError.{ReadError}
use Rattle.tk_format.specs.declared.error.ReadError.TheVariants.{Malformed, Memory}
use Rattle.tk_format.specs.Format.{◌⊗◌, Format, number, only, after, counted, partly, whole}
use Rattle.tk_handle.specs.declared.dot.Dot.{Dot}
use Rattle.tk_handle.specs.DotBytes.{dot_field, serial_field}
use Rattle.tk_fact.specs.FactBytes.{fact}
use Rattle.tk_bundle.specs.BundleFields.{Items}
use Rattle.tk_bundle.specs.Items.{dot_size, behind_length}
use Rattle.tk_bundle.specs.Pieces.{grouped, expanded, is_proper}
use Rattle.tk_bundle.specs.declared.piece.Piece.{Piece}
use Rattle.tk_bundle.specs.declared.piece.Piece.TheVariants.{Fact, Marks}

-- the number of a run, where a fact has the number of its kind; no kind of fact has this number
abbrev pub run_kind : ℕ
run_kind = 14

-- the greatest number of pieces in a bundle
abbrev pub max_pieces : ℕ
max_pieces = 128

-- the greatest number of items in a bundle that spells them by pieces
abbrev pub max_run_items : ℕ
max_run_items = 1024

-- a run of marks: the first dot, the number of a run, the last serial, which is above the first
abbrev pub run : Format (Dot × ℕ)
run = only (λ r. nat_lt r.0.serial r.1) (dot_field ⊗ after (run_kind ∷ []) serial_field)

-- the bytes of marks: of a lone mark, those of its dot; of others, those of a run
abbrev pub marks_bytes : Dot → ℕ → List ℕ
marks_bytes d last = if d.serial == last then dot_field.spell d else run.spell (d, last)

-- the bytes of a piece
abbrev pub piece_bytes : Piece → List ℕ
piece_bytes (Fact f) = fact.spell f
piece_bytes (Marks d last) = marks_bytes d last

-- the marks are in range, and the last isn't before the first
abbrev pub MarksFit : Dot → ℕ → Type 0
MarksFit d last = dot_field.Fits d × serial_field.Fits last × (nat_le d.serial last ≡ true)

-- the piece has bytes: its fact passes its check, or its marks are in range
abbrev pub PieceFits : Piece → Type 0
PieceFits (Fact f) = fact.Fits f
PieceFits (Marks d last) = MarksFit d last

-- the byte behind a dot is the number of a run
abbrev pub has_run_kind : List ℕ → Bool
has_run_kind bytes = option_map_or (λ k. k == run_kind) (slice_get bytes dot_size) false

-- a lone mark
abbrev pub lone : Dot → Piece
lone d = Marks d d.serial

-- the piece of a run
abbrev pub run_piece : Dot × ℕ → Piece
run_piece r = Marks r.0 r.1

-- the piece that all of the bytes spell: as many bytes as a dot has are a lone mark; others are a
-- run, if they have its number, or else a fact
abbrev pub piece_in : List ℕ → Option Piece
piece_in bytes =
    if length bytes == dot_size then option_map lone (whole dot_field bytes)
    else if has_run_kind bytes then option_map run_piece (whole run bytes)
    else option_map Fact (whole fact bytes)

-- a piece behind its length, which is at most that of a fact
abbrev pub piece : Format Piece
piece = behind_length piece_bytes PieceFits piece_in

-- a count of at most 128, and that many pieces
abbrev pub counted_pieces : Format (List Piece)
counted_pieces = counted (only (λ n. nat_le n max_pieces) (number w16)) piece

-- the pieces are those of a bundle with runs: none continues the one before, they have at most
-- 1,024 items, and one of them is a run
abbrev pub are_runs : List Piece → Bool
are_runs ps =
    is_proper ps && (nat_le (length (expanded ps)) max_run_items
    && nat_lt (length ps) (length (expanded ps)))

-- the items of the pieces of a bundle with runs
abbrev pub joined : List Piece → Option Items
joined ps = if are_runs ps then Some (expanded ps) else None

-- items spelled by pieces, one of which is a run
abbrev pub pieced_items : Format Items
pieced_items = partly joined grouped counted_pieces

-- a reader of all of the bytes: unless memory runs out, it returns the piece that they spell
abbrev pub GetsPiece : Result Piece ReadError → List ℕ → Type 0
GetsPiece (Ok p) bytes = piece_in bytes ≡ Some p
GetsPiece (Err Malformed) bytes = piece_in bytes ≡ None
GetsPiece (Err Memory) bytes = Unit {0}
