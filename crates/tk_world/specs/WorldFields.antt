-- What contracts see of a world (own).
--   WorldFields   settings, the regions' stores, and the bundles made
--   store_in      what a region knows
--   region_at     the region of a number with a store
use Rattle.std.specs.Prelude.{ℕ, List, [], refl, unwrap_or}
use Rattle.std.specs.Ordering.{nat_cmp}
use Rattle.std.specs.FinMap as map
use Rattle.std.specs.Coded.{Coded, code_by, coded×, coded_bool, coded_ℕ, coded_list, coded_option}
use Rattle.tk_handle.specs.Dot.{coded_dot}
use Rattle.tk_store.specs.Slots.{coded_slot}
use Rattle.tk_store.specs.StoreFields.{StoreFields, coded_store, empty_store}
use Rattle.tk_bundle.specs.BundleFields.{BundleFields}
use Rattle.tk_region.specs.SettingsFields.{SettingsFields, coded_settings}
use Rattle.tk_region.specs.RegionFields.{RegionFields}

-- a world: its settings, the regions' stores by number, and the bundles in the order of making
pub record WorldFields : Type 0 where
  pub settings : SettingsFields
  pub regions : map.FinMap nat_cmp StoreFields
  pub bundles : List BundleFields

-- the code of a bundle, as nested pairs
abbrev pub coded_bundle : Coded BundleFields
coded_bundle =
    code_by _
    (coded× (coded_option coded_ℕ)
    (coded× coded_bool (coded_list (coded× coded_dot coded_slot))))
    (λ b. (b.horizon, (b.runs, b.items)))
    (λ p. record { horizon = p.0; runs = p.1.0; items = p.1.1 }) (λ _. refl)

-- the code of a world, as nested pairs
abbrev pub coded_world : Coded WorldFields
coded_world =
    code_by (SettingsFields × (map.FinMap nat_cmp StoreFields × List BundleFields))
    (coded× coded_settings
    (coded× (map.code coded_ℕ coded_store) (coded_list coded_bundle)))
    (λ w. (w.settings, (w.regions, w.bundles)))
    (λ p. record { settings = p.0; regions = p.1.0; bundles = p.1.1 }) (λ _. refl)

-- the world without regions and bundles
abbrev pub new_world : SettingsFields → WorldFields
new_world settings = record { settings = settings; regions = map.empty; bundles = [] }

-- the world with this store in the region of the number
abbrev pub with_store : WorldFields → ℕ → StoreFields → WorldFields
with_store w r P =
    record { settings = w.settings; regions = map.insert w.regions r P; bundles = w.bundles }

-- the world with these bundles
abbrev pub with_bundles : WorldFields → List BundleFields → WorldFields
with_bundles w bundles =
    record { settings = w.settings; regions = w.regions; bundles = bundles }

-- what a region knows: nothing if the region isn't open
abbrev pub store_in : WorldFields → ℕ → StoreFields
store_in w r = unwrap_or (map.get w.regions r) empty_store

-- the region of this number with this store
abbrev pub region_at : WorldFields → ℕ → StoreFields → RegionFields
region_at w r P = record { number = r; settings = w.settings; facts = P }
