-- What a pull requests (own). Its body is a cursor, then the vector of what the puller holds; its
-- query names the pages.
--   cursor     the dot above which the page begins, or the beginning
--   wanted     a cursor and a vector
--   pages_by   the pages that a query names
use Rattle.std.specs.Prelude.{ℕ, ◌&&◌, ◌==◌, List, Option, Some, None, codes, if◌then◌else◌}
use Rattle.std.specs.Int.{w16, w64}
use Rattle.std.specs.Str.{bytes_eq}
use Rattle.tk_format.specs.Format.{Format, number, ◌⊗◌, partly, shaped}
use Rattle.tk_handle.specs.declared.dot.Dot.{Dot}
use Rattle.tk_handle.specs.Ranges.{is_region, is_serial}
use Rattle.tk_vector.specs.VectorBytes.{vector}
use Rattle.tk_edge.specs.declared.pull.Pages.{Pages}
use Rattle.tk_edge.specs.declared.pull.Pages.TheVariants.{Plain, WithRuns}
use Rattle.tk_edge.specs.declared.pull.Wanted.{Wanted}

-- the cursor of two numbers: two zeros are the beginning, other numbers a dot if they are in range
abbrev pub cursor_at : ℕ × ℕ → Option (Option Dot)
cursor_at p =
    if (p.0 == 0) && (p.1 == 0) then Some None
    else if is_region p.0 && is_serial p.1 then Some (Some (record { region = p.0; serial = p.1 }))
    else None

-- the two numbers of a cursor
abbrev pub numbers_of : Option Dot → ℕ × ℕ
numbers_of None = (0, 0)
numbers_of (Some d) = (d.region, d.serial)

-- the format of a cursor: the region's number in two bytes, then the serial in eight
abbrev pub cursor : Format (Option Dot)
cursor = partly cursor_at numbers_of (number w16 ⊗ number w64)

-- the format of a pull: a cursor, then a vector
abbrev pub wanted : Format Wanted
wanted =
    shaped (λ p. record { after = p.0; vector = p.1 }) (λ w. (w.after, w.vector)) (cursor ⊗ vector)

-- the pages that a query names: those with runs if it is `runs=1`, and plain ones otherwise
abbrev pub pages_by : List ℕ → Pages
pages_by query = if bytes_eq query (codes "runs=1") then WithRuns else Plain
