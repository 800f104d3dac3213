-- Moments as texts (RFC 3339, 5.6).
--   year_of       the year of a day, both counted from 1 March of a year that 400 divides
--   date_of       the date of a day, counted from 1970-01-01
--   two_digits    the last two digits of a number
--   date_text     a date, as in 2026-11-27
--   time_text     the time of a second of a day, as in 12:00:00
--   day_text      the date of a day, counted from 1970-01-01
--   moment_text   a moment, as in 2026-11-27T12:00:00Z
use Rattle.std.specs.Prelude.{ℕ, ◌+◌, ◌-◌, ◌*◌, ◌/◌, ◌%◌, nat_lt, List, [], ◌∷◌, ◌++◌, codes}
use Rattle.std.specs.Prelude.{if◌then◌else◌}
use Rattle.tk_listing.specs.declared.calendar.Date.{Date}

-- The year of a day, both counted from 0 at 1 March of a year that 400 divides. Such 400 years have
-- 146,097 days, 100 years have 36,524 or one more, 4 years have 1,461 or one less.
abbrev pub year_of : ℕ → ℕ
year_of day = (day - day / 1460 + day / 36524 - day / 146096) / 365

-- the day of that year, counted from 0 at 1 March
abbrev pub day_of_year : ℕ → ℕ
day_of_year day =
    day - (365 * year_of day + year_of day / 4 - year_of day / 100)

-- the month of a day of that year, from 0 for March: five months have 153 days
abbrev pub month_of : ℕ → ℕ
month_of day = (5 * day + 2) / 153

-- the date of a day of 400 years, which begin in March of the year 400 * n
abbrev pub date_in : ℕ → ℕ → Date
date_in n day =
    let month = month_of (day_of_year day) in
    let year = n * 400 + year_of day in
    let first = (153 * month + 2) / 5 in
    if nat_lt month 10
    then record { year = year; month = month + 3; day = day_of_year day - first + 1 }
    else record { year = year + 1; month = month - 9; day = day_of_year day - first + 1 }

-- the date of a day that is counted from 0 at 1970-01-01, 719,468 days after 0000-03-01
abbrev pub date_of : ℕ → Date
date_of days = date_in ((days + 719468) / 146097) ((days + 719468) % 146097)

-- the last two digits of a number
abbrev pub two_digits : ℕ → List ℕ
two_digits n = (48 + n / 10 % 10) ∷ (48 + n % 10) ∷ []

-- a date, as in 2026-11-27
abbrev pub date_text : Date → List ℕ
date_text date =
    two_digits (date.year / 100)
    ++ (two_digits date.year
    ++ (codes "-" ++ (two_digits date.month ++ (codes "-" ++ two_digits date.day))))

-- the time of a second of a day, as in 12:00:00
unfoldable pub time_text : ℕ → List ℕ
time_text second =
    two_digits (second / 3600)
    ++ (codes ":" ++ (two_digits (second / 60 % 60) ++ (codes ":" ++ two_digits (second % 60))))

-- the date of a day that is counted from 0 at 1970-01-01
unfoldable pub day_text : ℕ → List ℕ
day_text days = date_text (date_of days)

-- a moment, as in 2026-11-27T12:00:00Z
unfoldable pub moment_text : ℕ → List ℕ
moment_text seconds =
    day_text (seconds / 86400)
    ++ (codes "T" ++ (time_text (seconds % 86400) ++ codes "Z"))
