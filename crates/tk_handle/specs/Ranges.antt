-- The ranges of regions, serials and moments (own).
--   IsRegion, is_region, max_region    the number of a region
--   IsSerial, is_serial, max_serial    the place of a fact among those of its region
--   IsMoment, is_moment, max_moment    whole seconds since 1970-01-01T00:00:00Z
use Rattle.std.specs.Prelude.{ℕ, ◌<◌, ◌≤◌, Bool, ◌&&◌, nat_lt, nat_le}

-- the greatest number of a region: the greatest number of two bytes
abbrev pub max_region : ℕ
max_region = 65535

-- the greatest serial: the greatest number of 63 bits
abbrev pub max_serial : ℕ
max_serial = 9223372036854775807

-- the greatest moment: the last second of the year 9999
abbrev pub max_moment : ℕ
max_moment = 253402300799

-- the number of a region
abbrev pub IsRegion : ℕ → Type 0
IsRegion n = (0 < n) × (n ≤ max_region)

-- a serial
abbrev pub IsSerial : ℕ → Type 0
IsSerial n = (0 < n) × (n ≤ max_serial)

-- the seconds of a moment
abbrev pub IsMoment : ℕ → Type 0
IsMoment n = n ≤ max_moment

-- `IsRegion` as a test
abbrev pub is_region : ℕ → Bool
is_region n = nat_lt 0 n && nat_le n max_region

-- `IsSerial` as a test
abbrev pub is_serial : ℕ → Bool
is_serial n = nat_lt 0 n && nat_le n max_serial

-- `IsMoment` as a test
abbrev pub is_moment : ℕ → Bool
is_moment n = nat_le n max_moment
