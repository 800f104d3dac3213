-- The bytes of a version vector (own): the magic, a count, and the entries, strictly ascending by
-- region. An entry is spelled as the dot of its region and serial is.
--   magic          the bytes that begin a vector
--   entry_field    an entry: the region's number, and the serial
--   listed         the magic, a count, and that number of entries
--   rising         the vector of entries whose regions rise
--   vector         the format of a vector
--   vector_bytes   the bytes of a vector
use Rattle.std.specs.Prelude.{ℕ, List, [], ◌∷◌, Option, Some, None, if◌then◌else◌}
use Rattle.std.specs.Int.{w16}
use Rattle.std.specs.Ordering.{nat_cmp}
use Rattle.std.specs.FinMap as map
use Rattle.tk_format.specs.Format.{Format, ◌⊗◌, number, partly, after, counted}
use Rattle.tk_handle.specs.DotBytes.{region_field, serial_field}
use Rattle.tk_vector.specs.VersionVector.{Vector}

-- the bytes that begin a vector: OTV1
abbrev pub magic : List ℕ
magic = 79 ∷ 84 ∷ 86 ∷ 49 ∷ []

-- an entry: the region's number in two bytes, and the serial in eight
abbrev pub entry_field : Format (ℕ × ℕ)
entry_field = region_field ⊗ serial_field

-- the magic, a count in two bytes, and as many entries as the count
abbrev pub listed : Format (List (ℕ × ℕ))
listed = after magic (counted (number w16) entry_field)

-- the vector of entries whose regions strictly rise; other entries make no vector
abbrev pub rising : List (ℕ × ℕ) → Option Vector
rising entries = if map.is_sorted nat_cmp entries then Some (map.from_sorted entries) else None

-- the format of a vector: its entries, ascending by region
abbrev pub vector : Format Vector
vector = partly rising map.entries listed

-- the bytes of a vector
abbrev pub vector_bytes : Vector → List ℕ
vector_bytes v = vector.spell v
