-- The events of a script.
--   lines_of       the lines of a script
--   is_told        the line should be an event: it is neither empty nor a comment
--   AreEvents      the events of lines, in order
--   words_at       the random words of an event, by its index
--   AreShort       events whose requests are all short enough
--   IsBadLine      a line that is no event, or whose request is too long
--   IsFirstBad     the number of the first bad line
--   IsInputFault   the faults of an input that gives no script
--   IsFaultOf      the faults of a script that gives no events
use Rattle.std.specs.Prelude.{◌≡◌, ◌<◌, ◌⊎◌, ℕ, ◌+◌, ◌*◌, ◌==◌, ⊤, Bool, false, true, not, List, []}
use Rattle.std.specs.Prelude.{◌∷◌, ◌++◌, length, filter, slice_get, vec_len, Option, Some, IfSome}
use Rattle.std.specs.List.{AllZip, slice_split}
use Rattle.tk_world.specs.declared.event.Event.{Event}
use Rattle.tk_world.specs.declared.event.Event.TheVariants.{Request}
use Rattle.tk_world.specs.Line.{IsEventLine, IsNoEventLine}
use Rattle.tokend.specs.declared.fault.Fault.{Fault}
use Rattle.tokend.specs.declared.fault.Fault.TheVariants.{BadLine, CannotRead, Memory}
use Rattle.tokend.specs.declared.fault.Fault.TheVariants.{ScriptTooLong}

-- the byte is LF, the end of a line
abbrev pub is_newline : ℕ → Bool
is_newline b = b == 10

-- the lines of a script: what is between the ends of lines, and after the last end, where a line
-- may be empty
abbrev pub lines_of : List ℕ → List (List ℕ)
lines_of script = slice_split is_newline script

-- the line should be an event: it is neither empty nor begins with `#`
abbrev pub is_told : List ℕ → Bool
is_told [] = false
is_told (b ∷ rest) = not (b == 35)

-- an event for each line that should be one, in order
abbrev pub AreEvents : List (List ℕ) → List Event → Type 0
AreEvents lines events = AllZip IsEventLine (filter is_told lines) events

-- the six random words of an event, by its index among the events
abbrev pub words_at : ℕ → List ℕ
words_at place =
    let first = 6 * place in
    first ∷ (first + 1) ∷ (first + 2) ∷ (first + 3) ∷ (first + 4) ∷ (first + 5) ∷ []

-- the event is a request of more bytes than the limit, if there is a limit
abbrev pub IsTooLong : Option ℕ → Event → Type 0
IsTooLong (Some longest) (Request region now words bytes) = longest < vec_len bytes
IsTooLong longest event = ⊥

-- the requests of the events are within the limit, if there is a limit
abbrev pub AreShort : Option ℕ → List Event → Type 0
AreShort longest events =
    (k : ℕ) → IfSome (slice_get events k) (λ event. ¬ (IsTooLong longest event))

-- the line is no event, or its request is too long
abbrev pub IsBadLine : Option ℕ → List ℕ → Type 0
IsBadLine longest line =
    IsNoEventLine line ⊎ ((event : Event) × IsEventLine line event × IsTooLong longest event)

-- the line of this number, counted from 1, should be an event and is bad, and the lines before it
-- have their events
pub record IsFirstBad (longest : Option ℕ) (script : List ℕ) (number : ℕ) : Type 0 where
  pub before : List (List ℕ)
  pub line : List ℕ
  pub after : List (List ℕ)
  pub events : List Event
  pub stands : lines_of script ≡ before ++ line ∷ after
  pub counted : number ≡ length before + 1
  pub earlier : AreEvents before events
  pub told : is_told line ≡ true
  pub bad : IsBadLine longest line

-- the greatest length of a script in bytes, 1 MiB (own)
abbrev pub max_length : ℕ
max_length = 1048576

-- the faults of an input: memory ran out, the input failed, or it is longer than a script may be
abbrev pub IsInputFault : Option (List ℕ) → Fault → Type 0
IsInputFault input Memory = ⊤
IsInputFault input CannotRead = ⊤
IsInputFault input ScriptTooLong = IfSome input (λ bytes. max_length < length bytes)
IsInputFault input fault = ⊥

-- the faults of a script: memory ran out, or this is the first bad line
abbrev pub IsFaultOf : Option ℕ → List ℕ → Fault → Type 0
IsFaultOf longest script Memory = ⊤
IsFaultOf longest script (BadLine number) = IsFirstBad longest script number
IsFaultOf longest script fault = ⊥
