-- Where the pairs of parameters are in the bytes of them all (own).
--   pair_at    the name and the value at a place
--   pairs_at   the pairs at places, in order
--   IsPlace    a place is within the bytes, and its value is UTF-8
use Rattle.std.specs.Prelude.{ℕ, ◌≤◌, List, length, map, slice_range, IsUtf8}
use Rattle.tk_params.specs.declared.place.Place.{Place}
use Rattle.tk_params.specs.Params.{Pairs}

-- the name and the value at a place
abbrev pub pair_at : List ℕ → Place → List ℕ × List ℕ
pair_at text p = (slice_range text p.start p.middle, slice_range text p.middle p.end)

-- the pairs at places, in order
abbrev pub pairs_at : List ℕ → List Place → Pairs
pairs_at text places = map (λ p. pair_at text p) places

-- a place is within the bytes, and its value is UTF-8
pub record IsPlace (text : List ℕ) (p : Place) : Type 0 where
  pub starts : p.start ≤ p.middle
  pub parted : p.middle ≤ p.end
  pub within : p.end ≤ length text
  pub utf8 : IsUtf8 (slice_range text p.middle p.end)
