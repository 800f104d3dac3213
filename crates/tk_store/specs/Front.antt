-- The front of a set (own): up to which serial the facts of each region are all held.
--   HeldUpTo    the region's serials 1 to n are all in the set
--   IsFrontAt   n is the greatest such number
--   IsFront     the vector has that number as each region's entry
use Rattle.std.specs.Prelude.{ℕ, ◌<◌, ◌≤◌, IsSome}
use Rattle.std.specs.FinMap as map
use Rattle.tk_handle.specs.declared.dot.Dot.{Dot}
use Rattle.tk_handle.specs.Dot.{dot_cmp}
use Rattle.tk_vector.specs.VersionVector.{Vector, entry}

-- the dot of a region and a serial
abbrev pub dot_at : ℕ → ℕ → Dot
dot_at region serial = record { region = region; serial = serial }

-- the region's serials 1 to n are all in the set
abbrev pub HeldUpTo : {X : Type 0} → map.FinMap dot_cmp X → ℕ → ℕ → Type 0
HeldUpTo F r n = (k : ℕ) → 0 < k → k ≤ n → IsSome (map.get F (dot_at r k))

-- n is the greatest number such that the region's serials 1 to n are all in the set
pub record IsFrontAt {X : Type 0} (F : map.FinMap dot_cmp X) (r n : ℕ) : Type 0 where
  pub held : HeldUpTo F r n
  pub greatest : (m : ℕ) → HeldUpTo F r m → m ≤ n

-- v is the front of F: its entry at each region is the number of `IsFrontAt`
abbrev pub IsFront : {X : Type 0} → map.FinMap dot_cmp X → Vector → Type 0
IsFront F v = (r : ℕ) → IsFrontAt F r (entry v r)
