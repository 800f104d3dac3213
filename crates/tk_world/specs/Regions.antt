-- The regions of a world behind their edges, as a list whose numbers rise (own).
--   entries_of    each number with its region's store
--   HaveSettings  the regions have these settings and the terms that accept all, and none is sealed
use Rattle.std.specs.Prelude.{◌≡◌, ℕ, false, List, map}
use Rattle.std.specs.List.{AllByRecursion}
use Rattle.tk_store.specs.StoreFields.{StoreFields}
use Rattle.tk_region.specs.SettingsFields.{SettingsFields}
use Rattle.tk_edge.specs.EdgeFields.{EdgeFields}
use Rattle.tk_edge.specs.Terms.{accept_all}

-- a region's number, and its store
abbrev pub entry_of : EdgeFields → ℕ × StoreFields
entry_of edge = (edge.region.number, edge.region.facts)

-- each number with its region's store
abbrev pub entries_of : List EdgeFields → List (ℕ × StoreFields)
entries_of edges = map entry_of edges

-- the region has these settings, refuses no bundle, gives no notice, and isn't sealed
abbrev pub IsOpen : SettingsFields → EdgeFields → Type 0
IsOpen settings edge =
    (edge.region.settings ≡ settings) × (edge.sealed ≡ false) × (edge.terms ≡ accept_all)

-- all regions have these settings and terms, and none is sealed
abbrev pub HaveSettings : SettingsFields → List EdgeFields → Type 0
HaveSettings settings edges = AllByRecursion (IsOpen settings) edges
