-- The place of a key in a list of entries whose keys rise, or the place where it would go (own).
--   IsAt    the entry at a place has the key
--   IsGap   no entry has the key, and it would go at a place
use Rattle.std.specs.Prelude.{◌≡◌, ℕ, ◌<◌, ◌≤◌, List, length, slice_index_or, slice_set, Some, None}
use Rattle.std.specs.declared.cmp.Ordering.{Ordering}
use Rattle.std.specs.FinMap.{find, put}
use Rattle.std.specs.List.{insert}

-- the entry at place i has the key
pub record IsAt {K X : Type 0} (R : K → K → Ordering) (es : List (K × X)) (k : K)
    (i : ℕ) : Type 0 where
  pub in_range : i < length es
  pub tied : (d : K × X) → R (slice_index_or es i d).0 k ≡ Ordering.Equal
  pub found : (d : K × X) → find R k es ≡ Some (slice_index_or es i d).1
  pub replaced : (v : X) (d : K × X) → put R k v es ≡ slice_set es i ((slice_index_or es i d).0, v)
  pub below : (j : ℕ) (d : K × X) → j < i → R k (slice_index_or es j d).0 ≡ Ordering.Greater
  pub above : (j : ℕ) (d : K × X) → i < j → j < length es
      → R k (slice_index_or es j d).0 ≡ Ordering.Less

-- no entry has the key, which would go at place i
pub record IsGap {K X : Type 0} (R : K → K → Ordering) (es : List (K × X)) (k : K)
    (i : ℕ) : Type 0 where
  pub in_range : i ≤ length es
  pub absent : find R k es ≡ None
  pub fits : (v : X) → put R k v es ≡ insert es i (k, v)
  pub below : (j : ℕ) (d : K × X) → j < i → R k (slice_index_or es j d).0 ≡ Ordering.Greater
  pub above : (j : ℕ) (d : K × X) → i ≤ j → j < length es
      → R k (slice_index_or es j d).0 ≡ Ordering.Less
