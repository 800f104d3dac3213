-- The order of version vectors (own).
--   AtMost      an entry is at most another; no entry is least of all
--   Below       each entry of one vector is at most the other's
--   AllAtMost   each of some entries is at most the vector's
--   RaisedBy    a vector after the first of some entries were raised in it
use Rattle.std.specs.Prelude.{ℕ, ◌<◌, ◌≤◌, List, length, slice_index_or, Option, Some, None}
use Rattle.std.specs.FinMap as map
use Rattle.tk_vector.specs.VersionVector.{Vector}

-- an entry is at most another; no entry is least of all
abbrev pub AtMost : Option ℕ → Option ℕ → Type 0
AtMost None o = Unit {0}
AtMost (Some n) None = ⊥
AtMost (Some n) (Some m) = n ≤ m

-- each entry of v is at most the entry of w
abbrev pub Below : Vector → Vector → Type 0
Below v w = (region : ℕ) → AtMost (map.get v region) (map.get w region)

-- each of the first i entries of a list is at most the vector's
abbrev pub AllAtMost : List (ℕ × ℕ) → ℕ → Vector → Type 0
AllAtMost es i w = (k : ℕ) (d : ℕ × ℕ) → k < i
    → AtMost (Some (slice_index_or es k d).1) (map.get w (slice_index_or es k d).0)

-- w is v after raising: at least each of the first i entries, and below every vector above v and
-- all entries
pub record RaisedBy (v : Vector) (es : List (ℕ × ℕ)) (w : Vector) (i : ℕ) : Type 0 where
  pub above : Below v w
  pub least : (c : Vector) → Below v c → AllAtMost es (length es) c → Below w c
  pub has : AllAtMost es i w
