-- How a dot is spelled in bytes (own).
--   region_field   a region's number
--   serial_field   a serial
--   dot_field      a dot: the region's number, and the serial
use Rattle.std.specs.Prelude.{ℕ}
use Rattle.std.specs.Int.{w16, w64}
use Rattle.tk_format.specs.Format.{Format, number, ◌⊗◌, only, shaped}
use Rattle.tk_handle.specs.declared.dot.Dot.{Dot}
use Rattle.tk_handle.specs.Ranges.{is_region, is_serial}

-- a region's number in two bytes
abbrev pub region_field : Format ℕ
region_field = only is_region (number w16)

-- a serial in eight bytes
abbrev pub serial_field : Format ℕ
serial_field = only is_serial (number w64)

-- a dot in bytes: the region's number in two, and the serial in eight
abbrev pub dot_field : Format Dot
dot_field = shaped (λ p. record { region = p.0; serial = p.1 }) (λ d. (d.region, d.serial))
    (region_field ⊗ serial_field)
