-- The law of the format of vectors (`vector_exact`): the bytes of a vector are read as the vector,
-- and no other bytes are read.
use Rattle.std.proofs.Common.{◌≡◌, ℕ, T, List, Some, subst, sym, ap, ◌∙◌}
use Rattle.std.proofs.lemmas.Option.{cond_some}
use Rattle.std.specs.Ordering.{nat_cmp}
use Rattle.std.specs.FinMap as map
use Rattle.tk_format.specs.Exact.{IsExact}
use Rattle.tk_format.specs.NumberLaws.{u16_exact, u64_exact}
use Rattle.tk_format.specs.Laws.{both_exact, only_exact, after_exact, counted_exact, partly_exact}
use Rattle.tk_handle.specs.Ranges.{is_region, is_serial}
use Rattle.tk_vector.specs.VersionVector.{Vector}
use Rattle.tk_vector.specs.VectorBytes.{magic, entry_field, listed, rising, vector}

-- the law of the format of an entry
entry_exact : IsExact entry_field
entry_exact = both_exact _ _ (only_exact is_region _ u16_exact) (only_exact is_serial _ u64_exact)

-- the law of the format of a list of entries
listed_exact : IsExact listed
listed_exact = after_exact magic _ (counted_exact _ entry_field u16_exact entry_exact)

-- a vector that was made from entries has these entries
entries_back : (es : List (ℕ × ℕ)) (v : Vector) → rising es ≡ Some v → map.entries v ≡ es
entries_back es v e =
    let g = cond_some (map.is_sorted nat_cmp es) (map.from_sorted es) v e in
    ap map.entries (sym g.1) ∙ map.entries-from_sorted nat_cmp es (subst T (sym g.0) tt)

-- the law of the format of a vector
pub vector_exact : IsExact vector
vector_exact = partly_exact rising map.entries listed listed_exact entries_back
