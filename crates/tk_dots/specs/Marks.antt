-- A map from dots to values or marks, whose marks are kept in runs (own). A mark is `None`.
--   with_marks, marked   the map with marks at some dots
--   AreApart             no dot of the runs has a place on a page
--   without_value        the map without the value at a dot; a mark stays
--   IsMarkBelow          a mark, if there is one below a dot
--   Passes               the next dot above a dot, where some marks may be passed over
use Rattle.std.specs.Prelude.{◌≡◌, true, false, List, [], ◌∷◌, Option, Some, None}
use Rattle.std.specs.FinMap as map
use Rattle.std.specs.FinSet as set
use Rattle.std.specs.Ordering.{is_lt}
use Rattle.tk_handle.specs.declared.dot.Dot.{Dot}
use Rattle.tk_handle.specs.Dot.{dot_cmp}
use Rattle.tk_dots.specs.Pages.{IsAbove}
use Rattle.tk_dots.specs.Runs.{DotSet}

-- a map from dots to values or marks
abbrev pub MarkedMap : Type 0 → Type 0
MarkedMap X = map.FinMap dot_cmp (Option X)

module _ {X : Type 0} where
  -- the map with marks at the dots of a list
  abbrev pub with_marks : MarkedMap X → List Dot → MarkedMap X
  with_marks m [] = m
  with_marks m (d ∷ ds) = map.insert (with_marks m ds) d None

  -- the map with marks at the dots of a set
  abbrev pub marked : MarkedMap X → DotSet → MarkedMap X
  marked m s = with_marks m (set.items s)

  -- no dot of the set is in the map
  abbrev pub AreApart : MarkedMap X → DotSet → Type 0
  AreApart m s = (d : Dot) → set.contains s d ≡ true → map.get m d ≡ None

  -- the map without the value at a dot; a mark stays
  abbrev pub without_value : MarkedMap X → Dot → Option (Option X) → MarkedMap X
  without_value m d None = m
  without_value m d (Some None) = m
  without_value m d (Some (Some x)) = map.remove m d

  -- the value at a dot, if there is one
  abbrev pub value_of : Option (Option X) → Option X
  value_of None = None
  value_of (Some o) = o

  -- a known dot above `after`, and what is there, with no value in between; or no value is above
  abbrev pub Passes : MarkedMap X → Option Dot → Option (Dot × Option X) → Type 0
  Passes m after None =
      (q : Dot) (x : X) → IsAbove after q → map.get m q ≡ Some (Some x) → ⊥
  Passes m after (Some p) =
      (map.get m p.0 ≡ Some p.1) × IsAbove after p.0
      × ((q : Dot) (x : X) → IsAbove after q → map.get m q ≡ Some (Some x)
      → is_lt (dot_cmp q p.0) ≡ false)

-- the mark, if there is one below the dot; otherwise none is below it
abbrev pub IsMarkBelow : Option Dot → Dot → Option Dot → Type 0
IsMarkBelow mark d None = (a : Dot) → mark ≡ Some a → is_lt (dot_cmp a d) ≡ false
IsMarkBelow mark d (Some a) = (mark ≡ Some a) × (is_lt (dot_cmp a d) ≡ true)
