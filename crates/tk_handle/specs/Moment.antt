-- Moments as numbers of seconds.
--   moment_plus   a moment, a given number of seconds later
--   moment        the format of a moment
use Rattle.std.specs.Prelude.{ℕ, ◌+◌, if◌then◌else◌}
use Rattle.std.specs.Int.{w64}
use Rattle.tk_format.specs.Format.{Format, number, only}
use Rattle.tk_handle.specs.Ranges.{max_moment, is_moment}

-- the moment `seconds` later, or the greatest moment if that is past it (own)
abbrev pub moment_plus : ℕ → ℕ → ℕ
moment_plus m seconds = if is_moment (m + seconds) then m + seconds else max_moment

-- a moment in eight bytes (own)
abbrev pub moment : Format ℕ
moment = only is_moment (number w64)
