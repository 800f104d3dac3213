-- What serving leaves of a region (own).
--   Grows   a region keeps its number, its settings and what it knew
use Rattle.std.specs.Prelude.{◌≡◌}
use Rattle.tk_store.specs.SlotOrder.{StoreBelow}
use Rattle.tk_region.specs.RegionFields.{RegionFields}

-- The region has the number and the settings that it had. What it knew of each dot it still knows,
-- or has skipped since, and its horizon isn't earlier.
pub record Grows (old new : RegionFields) : Type 0 where
  pub number : new.number ≡ old.number
  pub settings : new.settings ≡ old.settings
  pub facts : StoreBelow old.facts new.facts
