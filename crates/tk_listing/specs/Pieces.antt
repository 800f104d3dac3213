-- Bundles and vectors one behind the other (own): what logs, histories, pages and vectors hold.
--   FitsPiece       a bundle or a vector has a spelling
--   piece_bytes     the bytes of a bundle or a vector
--   piece_lines     the lines of a bundle or a vector
--   is_vector       bytes begin as a vector does
--   vector_size     the number of bytes of a vector with such a beginning
--   IsCut           the bytes end before the first bundle or vector does
--   IsBad           the bytes begin with no bundle and no vector, and aren't cut
--   ReadsPiece      how reading the first bundle or vector may end
--   Shows           the lines of the bundles and vectors at the front of bytes
use Rattle.std.specs.Prelude.{◌≡◌, ◌≢◌, ◌⊎◌, ℕ, ◌+◌, ◌*◌, ◌<◌, ◌≤◌, Bool, true, false}
use Rattle.std.specs.Prelude.{List, [], ◌∷◌, ◌++◌, length, take, get_or, Result, Ok, Err}
use Rattle.std.specs.List.{flat_map}
use Rattle.std.specs.Str.{bytes_eq}
use Rattle.tk_vector.specs.VersionVector.{Vector as Entries}
use Rattle.tk_vector.specs.VectorBytes.{vector, vector_bytes, magic}
use Rattle.tk_bundle.specs.BundleFields.{BundleFields}
use Rattle.tk_bundle.specs.Bundle.{bundle, bundle_bytes}
use Rattle.tk_bundle.specs.Front as bundles
use Rattle.tk_bundle.specs.declared.error.FrontError.{FrontError}
use Rattle.tk_bundle.specs.declared.error.FrontError.TheVariants.{Malformed, Memory, Cut}
use Rattle.tk_listing.specs.Lines.{item_lines, vector_lines}
use Rattle.tk_listing.specs.declared.piece.Piece.{Piece}
use Rattle.tk_listing.specs.declared.piece.Piece.TheVariants.{Bundle, Vector}

-- the bundle or the vector has a spelling
abbrev pub FitsPiece : Piece → Type 0
FitsPiece (Bundle b) = bundle.Fits b
FitsPiece (Vector v) = vector.Fits v

-- the bytes of a bundle or a vector
abbrev pub piece_bytes : Piece → List ℕ
piece_bytes (Bundle b) = bundle_bytes b
piece_bytes (Vector v) = vector_bytes v

-- the lines of a bundle or a vector
abbrev pub piece_lines : Piece → List ℕ
piece_lines (Bundle b) = item_lines b.horizon b.items
piece_lines (Vector v) = vector_lines v

-- the bytes begin as a vector does
abbrev pub is_vector : List ℕ → Bool
is_vector bytes = bytes_eq (take 4 bytes) magic

-- the number of bytes of a vector: six, and ten for each entry that the fifth and sixth byte count
abbrev pub vector_size : List ℕ → ℕ
vector_size bytes = 6 + 10 * (256 * get_or bytes 4 0 + get_or bytes 5 0)

-- the bytes end before the first bundle or vector does
abbrev pub IsCut : List ℕ → Type 0
IsCut bytes =
    ((is_vector bytes ≡ true) × ((length bytes < 6) ⊎ (length bytes < vector_size bytes)))
    ⊎ ((is_vector bytes ≡ false) × bundles.IsCut bytes)

-- the bytes begin as a vector does and are long enough, and the bytes of that size are no vector's
abbrev pub IsBadVector : List ℕ → Type 0
IsBadVector bytes =
    (is_vector bytes ≡ true) × (vector_size bytes ≤ length bytes)
    × ((v : Entries) → vector.Fits v → take (vector_size bytes) bytes ≢ vector_bytes v)

-- the bytes begin with no bundle, and aren't the beginning of one
abbrev pub IsBadBundle : List ℕ → Type 0
IsBadBundle bytes =
    (is_vector bytes ≡ false) × ¬ (bundles.IsCut bytes)
    × ((b : BundleFields) (more : List ℕ) → bundle.Fits b → bytes ≢ bundle_bytes b ++ more)

-- the bytes begin with no bundle and no vector, and aren't cut
abbrev pub IsBad : List ℕ → Type 0
IsBad bytes = IsBadVector bytes ⊎ IsBadBundle bytes

-- the bundle or vector at the front, with its length
pub record IsFront (bytes : List ℕ) (piece : Piece) (n : ℕ) : Type 0 where
  pub fits : FitsPiece piece
  pub some : 0 < n
  pub within : n ≤ length bytes
  pub spelled : take n bytes ≡ piece_bytes piece

-- how reading the first bundle or vector may end
abbrev pub ReadsPiece : List ℕ → Result (Piece × ℕ) FrontError → Type 0
ReadsPiece bytes (Ok x) = IsFront bytes x.0 x.1
ReadsPiece bytes (Err Cut) = IsCut bytes
ReadsPiece bytes (Err Malformed) = IsBad bytes
ReadsPiece bytes (Err Memory) = Unit {0}

-- each bundle or vector has a spelling
abbrev pub ArePieces : List Piece → Type 0
ArePieces [] = Unit {0}
ArePieces (piece ∷ more) = FitsPiece piece × ArePieces more

-- the bytes are those of bundles and vectors with these lines, one behind the other, and a rest
pub record Shows (bytes rest lines : List ℕ) : Type 0 where
  pub pieces : List Piece
  pub fit : ArePieces pieces
  pub parts : bytes ≡ flat_map piece_bytes pieces ++ rest
  pub shown : lines ≡ flat_map piece_lines pieces
