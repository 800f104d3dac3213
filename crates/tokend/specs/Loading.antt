-- What an old log brings to a region (own).
--   log_bytes    the bytes of bundles, one behind the other
--   AreBundles   bundles have spellings
--   TakesAs      a bundle is taken in as `Region::take_in` takes it
--   TakesEach    bundles are taken in one after the other
--   TakesFront   bundles at the front of a log are taken in, and the rest is left
--   IsNoBundle   the rest of a log begins with no bundle
--   IsRefused    the first bundle of the rest of a log is refused
--   TakesPart    memory ran out, and the first items of the next bundle may be in
--   TakesOne     how taking in the first bundle of a rest may end
--   Loads        how loading a log may end
--   front_end    the outcome for a front that can't be read
--   take_fault   the fault of a bundle that isn't taken in
use Rattle.std.specs.Prelude.{◌≡◌, ◌⊎◌, ℕ, ◌-◌, ◌<◌, ◌≤◌, true, List, [], ◌∷◌, ◌++◌, length}
use Rattle.std.specs.Prelude.{take as take_bytes, Option, Some, None, Result, Ok, Err}
use Rattle.std.specs.List.{flat_map}
use Rattle.tk_bundle.specs.BundleFields.{BundleFields}
use Rattle.tk_bundle.specs.Bundle.{bundle, bundle_bytes}
use Rattle.tk_bundle.specs.Front.{IsCut}
use Rattle.tk_bundle.specs.declared.error.FrontError.{FrontError}
use Rattle.tk_bundle.specs.declared.error.FrontError.TheVariants as front
use Rattle.tk_message.specs.Place.{next_in}
use Rattle.tk_region.specs.RegionFields.{RegionFields, place_in}
use Rattle.tk_region.specs.Taking.{AgreesWith, TakesFit, has_unmade}
use Rattle.tk_region.specs.declared.take.TakeError.{TakeError}
use Rattle.tk_region.specs.declared.take.TakeError.TheVariants as take
use Rattle.tokend.specs.declared.load.LoadFault.{LoadFault}
use Rattle.tokend.specs.declared.load.LoadFault.TheVariants.{Malformed, Refused, Memory, CannotRead}

-- the bytes of bundles, one behind the other
abbrev pub log_bytes : List BundleFields → List ℕ
log_bytes bundles = flat_map bundle_bytes bundles

-- each bundle has a spelling
abbrev pub AreBundles : List BundleFields → Type 0
AreBundles [] = Unit {0}
AreBundles (b ∷ more) = bundle.Fits b × AreBundles more

-- The bundle is taken in as `Region::take_in` takes it, with this result. If the bundle is taken
-- in, it has no item of the region's own that isn't made yet, and its items agree with what the
-- region knows.
pub record TakesAs (old : RegionFields) (b : BundleFields) (result : Result ℕ TakeError)
    (new : RegionFields) : Type 0 where
  pub number : new.number ≡ old.number
  pub settings : new.settings ≡ old.settings
  pub takes : TakesFit old.facts (next_in (place_in old)) b result new.facts

-- the bundles are taken in whole, one after the other
abbrev pub TakesEach : RegionFields → List BundleFields → RegionFields → Type 0
TakesEach old [] new = new ≡ old
TakesEach old (b ∷ more) new =
    (mid : RegionFields) × ((n : ℕ) × TakesAs old b (Ok n) mid) × TakesEach mid more new

-- bundles at the front of a log are taken in, and this rest of the log is left
pub record TakesFront (old : RegionFields) (log rest : List ℕ) (new : RegionFields) : Type 0 where
  pub bundles : List BundleFields
  pub fit : AreBundles bundles
  pub parts : log ≡ log_bytes bundles ++ rest
  pub each : TakesEach old bundles new

-- the rest of a log begins with this bundle
abbrev pub BeginsWith : List ℕ → BundleFields → Type 0
BeginsWith rest b = bundle.Fits b × ((more : List ℕ) × (rest ≡ bundle_bytes b ++ more))

-- the rest of a log begins with no bundle, and isn't cut
abbrev pub IsNoBundle : List ℕ → Type 0
IsNoBundle rest = ¬ IsCut rest × ((b : BundleFields) → ¬ BeginsWith rest b)

-- The region refuses the first bundle of the rest of a log: some item is the region's own and isn't
-- made yet, or disagrees with what the region knows.
abbrev pub IsRefused : RegionFields → List ℕ → Type 0
IsRefused region rest =
    (b : BundleFields) × BeginsWith rest b
    × ((has_unmade (next_in (place_in region)) b.items ≡ true)
    ⊎ ¬ (AgreesWith region.facts.slots b.items))

-- out of memory: the region is unchanged, or the first items of the rest's first bundle are in
abbrev pub TakesPart : RegionFields → List ℕ → RegionFields → Type 0
TakesPart old rest new = (new ≡ old)
    ⊎ ((b : BundleFields) × (more : List ℕ) × bundle.Fits b × (rest ≡ bundle_bytes b ++ more)
    × TakesAs old b (Err take.Memory) new)

-- how taking in the first bundle of a rest, which is at this offset of the log, may end: with its
-- length in bytes, or None if it is cut
abbrev pub TakesOne : ℕ → RegionFields → List ℕ → Result (Option ℕ) LoadFault → RegionFields
    → Type 0
TakesOne offset old rest (Ok (Some n)) new =
    (0 < n) × ((b : BundleFields) × bundle.Fits b × (n ≤ length rest)
    × (take_bytes n rest ≡ bundle_bytes b)
    × ((m : ℕ) × TakesAs old b (Ok m) new))
TakesOne offset old rest (Ok None) new = IsCut rest × (new ≡ old)
TakesOne offset old rest (Err (Malformed at)) new = IsNoBundle rest × (at ≡ offset) × (new ≡ old)
TakesOne offset old rest (Err (Refused at)) new = IsRefused old rest × (at ≡ offset) × (new ≡ old)
TakesOne offset old rest (Err Memory) new = TakesPart old rest new
TakesOne offset old rest (Err CannotRead) new = ⊥

-- how loading a log may end
abbrev pub Loads : RegionFields → List ℕ → Result ℕ LoadFault → RegionFields → Type 0
-- each bundle of the log is taken in, and the beginning of a record that was cut is dropped
Loads old log (Ok dropped) new =
    (rest : List ℕ) × TakesFront old log rest new × ((rest ≡ []) ⊎ IsCut rest)
    × (dropped ≡ length rest)
-- the bundles before bytes that are no bundle, which are at this offset
Loads old log (Err (Malformed at)) new =
    (rest : List ℕ) × TakesFront old log rest new × IsNoBundle rest
    × (at ≡ length log - length rest)
-- the bundles before the first that is refused, which is at this offset
Loads old log (Err (Refused at)) new =
    (rest : List ℕ) × TakesFront old log rest new × IsRefused new rest
    × (at ≡ length log - length rest)
-- some bundles, and perhaps the first items of the next
Loads old log (Err Memory) new =
    (rest : List ℕ) × (mid : RegionFields) × TakesFront old log rest mid × TakesPart mid rest new
-- no bundle
Loads old log (Err CannotRead) new = new ≡ old

-- the outcome for a front that can't be read, at this offset of the log
abbrev pub front_end : ℕ → FrontError → Result (Option ℕ) LoadFault
front_end offset front.Cut = Ok None
front_end offset front.Malformed = Err (Malformed offset)
front_end offset front.Memory = Err Memory

-- the fault of a bundle that isn't taken in, at this offset of the log
abbrev pub take_fault : ℕ → TakeError → LoadFault
take_fault offset take.Memory = Memory
take_fault offset error = Refused offset
