-- The lines that are printed of events and their outcomes (own).
--   location_in    the value of a reply's `Location`
--   body_in        the body of a reply
--   outcome_line   the line of an outcome, for an event of a region
--   line_text      the line of an event and its outcome
--   lines_text     a line for each event, as far as there are outcomes
use Rattle.std.specs.Prelude.{ℕ, ◌+◌, Bool, nat_eq, nat_lt, if◌then◌else◌, List, [], ◌∷◌, ◌++◌}
use Rattle.std.specs.Prelude.{length, take, drop, codes, decimal, Option, Some, None, unwrap_or}
use Rattle.std.specs.List.{flat_map, starts_with, zip}
use Rattle.std.specs.Option.{option_map}
use Rattle.tk_handle.specs.declared.dot.Dot.{Dot}
use Rattle.tk_handle.specs.DotText.{dot_text}
use Rattle.tk_ledger.specs.declared.slices.Slice.{Slice}
use Rattle.tk_message.specs.StatusCode.{status_number}
use Rattle.tk_world.specs.declared.event.Event.{Event}
use Rattle.tk_world.specs.World.{region_of}
use Rattle.tk_world.specs.declared.event.Outcome.{Outcome}
use Rattle.tk_world.specs.declared.event.Outcome.TheVariants.{Opened, NumberTaken, NoRegion}
use Rattle.tk_world.specs.declared.event.Outcome.TheVariants.{NoBundle, Reply, Bundle, Took, Pruned}
use Rattle.tk_world.specs.declared.event.Outcome.TheVariants.{PrunedSome, Memory}

-- the line feed that ends a line
abbrev pub newline : List ℕ
newline = 10 ∷ []

-- the dot of a bundle's last fact or of a slice's, or `-` if there is none
abbrev pub last_text : Option Dot → List ℕ
last_text None = codes "-"
last_text (Some dot) = dot_text dot

-- a space and the bytes, or nothing if there are no bytes
abbrev pub part_text : List ℕ → List ℕ
part_text [] = []
part_text (b ∷ bytes) = codes " " ++ (b ∷ bytes)

-- a space and the reply's location, if there is one
abbrev pub location_text : Option (List ℕ) → List ℕ
location_text None = []
location_text (Some uri) = codes " " ++ uri

-- the index of the first occurrence of a mark, or the length
abbrev pub place_of : List ℕ → List ℕ → ℕ
place_of mark [] = 0
place_of mark (b ∷ bytes) =
    if starts_with nat_eq (b ∷ bytes) mark then 0 else 1 + place_of mark bytes

-- the bytes before the first occurrence of a mark, or all of them
abbrev pub before : List ℕ → List ℕ → List ℕ
before mark bytes = take (place_of mark bytes) bytes

-- the bytes after the first occurrence of a mark, if there is one
abbrev pub behind : List ℕ → List ℕ → Option (List ℕ)
behind mark bytes =
    if nat_lt (place_of mark bytes) (length bytes)
    then Some (drop (place_of mark bytes + length mark) bytes) else None

-- the value of the reply's `Location` (RFC 9110, 10.2.2)
abbrev pub location_in : List ℕ → Option (List ℕ)
location_in bytes =
    option_map (before (codes "\r\n"))
    (behind (codes "\r\nLocation: ") (before (codes "\r\n\r\n") bytes))

-- the bytes after the empty line
abbrev pub body_in : List ℕ → List ℕ
body_in bytes = unwrap_or (behind (codes "\r\n\r\n") bytes) []

-- the line of a reply: its status, its location if there is one, its body if there is one
abbrev pub reply_line : ℕ → Option (List ℕ) → List ℕ → List ℕ
reply_line status location bytes =
    codes "reply " ++ (decimal status ++ (location_text location ++ (part_text bytes ++ newline)))

-- the line of a word and a number
abbrev pub numbered_line : List ℕ → ℕ → List ℕ
numbered_line word n = word ++ (decimal n ++ newline)

-- the line of a bundle: its number, how many facts it has, the greatest dot, and whether more
-- follow
abbrev pub bundle_line : ℕ → ℕ → Option Dot → Bool → List ℕ
bundle_line index count last more =
    codes "bundle "
    ++ (decimal index
    ++ (codes " "
    ++ (decimal count
    ++ (codes " "
    ++ (last_text last ++ ((if more then codes " more" else codes " end") ++ newline))))))

-- the line of a slice of a prune: how many facts went, and the next cursor, or `-` at the end of a
-- pass
abbrev pub slice_line : Slice → List ℕ
slice_line slice =
    codes "pruned " ++ (decimal slice.gone ++ (codes " " ++ (last_text slice.at ++ newline)))

-- the line of an outcome, for an event of a region
abbrev pub outcome_line : ℕ → Outcome → List ℕ
outcome_line region Opened = numbered_line (codes "opened ") region
outcome_line region NumberTaken = codes "number taken" ++ newline
outcome_line region NoRegion = codes "no region" ++ newline
outcome_line region NoBundle = codes "no bundle" ++ newline
outcome_line region (Reply status bytes) =
    reply_line (status_number status) (location_in bytes.items) (body_in bytes.items)
outcome_line region (Bundle index count last more) = bundle_line index count last more
outcome_line region (Took count) = numbered_line (codes "took ") count
outcome_line region (Pruned count) = numbered_line (codes "pruned ") count
outcome_line region (PrunedSome slice) = slice_line slice
outcome_line region Memory = codes "memory" ++ newline

-- the line of an event and its outcome
abbrev pub line_text : Event × Outcome → List ℕ
line_text line = outcome_line (region_of line.0) line.1

-- a line for each event, in order, as far as there are outcomes
abbrev pub lines_text : List Event → List Outcome → List ℕ
lines_text events outcomes = flat_map line_text (zip events outcomes)
