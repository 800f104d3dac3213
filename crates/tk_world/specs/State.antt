-- The state that a world stands for: open regions with all the facts that they made and took in,
-- and the bundles made (own). No fact is ever skipped in it.
--   Kept          the facts that a region made and took in, and its horizon
--   Sent          the facts of a bundle, and its horizon
--   State         settings, regions, bundles
--   facts_in      the facts that a region made and took in
--   horizon_in    the horizon of a region
--   region_with   the region of a number that holds facts
--   Consists      all facts that regions hold or bundles carry are in one set, that of the facts
--                 made
use Rattle.std.specs.Prelude.{◌≡◌, ℕ, ◌≤◌, List, [], ◌∷◌, ◌++◌, length, slice_get, Option, Some}
use Rattle.std.specs.Option.{option_map_or}
use Rattle.std.specs.Ordering.{nat_cmp}
use Rattle.std.specs.FinMap as map
use Rattle.tk_handle.specs.declared.dot.Dot.{Dot}
use Rattle.tk_fact.specs.declared.body.Body.{Body}
use Rattle.tk_store.specs.FactSet.{FactSet, Facts, AllIn, IsFactSet, IsSubset}
use Rattle.tk_store.specs.StoreFields.{StoreFields}
use Rattle.tk_store.specs.WholeStores.{whole_store}
use Rattle.tk_region.specs.SettingsFields.{SettingsFields, max_cap}
use Rattle.tk_region.specs.RegionFields.{RegionFields}

-- all facts that a region made and took in, those behind marks included, and its horizon
pub record Kept : Type 0 where
  pub facts : FactSet
  pub horizon : ℕ

-- the facts of a bundle, those behind marks included, and its horizon, if it has one
pub record Sent : Type 0 where
  pub facts : Facts
  pub horizon : Option ℕ

-- a state: its settings, the regions by number, and the bundles in the order of making
pub record State : Type 0 where
  pub settings : SettingsFields
  pub regions : map.FinMap nat_cmp Kept
  pub bundles : List Sent

-- a region without facts
abbrev pub new_kept : Kept
new_kept = record { facts = map.empty; horizon = 0 }

-- the state without regions and bundles
abbrev pub new_state : SettingsFields → State
new_state settings = record { settings = settings; regions = map.empty; bundles = [] }

-- the state with the region of the number
abbrev pub with_region : State → ℕ → Kept → State
with_region s r k =
    record { settings = s.settings; regions = map.insert s.regions r k; bundles = s.bundles }

-- the state with one more bundle
abbrev pub with_bundle : State → Sent → State
with_bundle s b =
    record { settings = s.settings; regions = s.regions; bundles = s.bundles ++ b ∷ [] }

-- the facts that a region made and took in: no facts if the region isn't open
abbrev pub facts_in : State → ℕ → FactSet
facts_in s r = option_map_or (λ k. k.facts) (map.get s.regions r) map.empty

-- the horizon of a region: 0 if the region isn't open
abbrev pub horizon_in : State → ℕ → ℕ
horizon_in s r = option_map_or (λ k. k.horizon) (map.get s.regions r) 0

-- a store that holds all facts of a region, and has its horizon
abbrev pub kept_store : Kept → StoreFields
kept_store k = record { slots = (whole_store k.facts).slots; horizon = k.horizon }

-- the region of this number that holds all these facts, and has their horizon
abbrev pub region_with : State → ℕ → Kept → RegionFields
region_with s r k = record { number = r; settings = s.settings; facts = kept_store k }

-- U is the set of all facts made: each is in the region of its number, with a serial up to the cap
pub record Consists (s : State) (U : FactSet) : Type 0 where
  pub sound : IsFactSet U
  pub held : (r : ℕ) (k : Kept) → map.get s.regions r ≡ Some k → IsSubset k.facts U
  pub home : (d : Dot) (b : Body) → map.get U d ≡ Some b
      → (k : Kept) × (map.get s.regions d.region ≡ Some k) × (map.get k.facts d ≡ Some b)
  pub carried : (i : ℕ) (b : Sent) → slice_get s.bundles i ≡ Some b
      → AllIn U b.facts × (length b.facts ≤ 128)
  pub capped : (d : Dot) (b : Body) → map.get U d ≡ Some b → d.serial ≤ s.settings.cap
  pub low : s.settings.cap ≤ max_cap
