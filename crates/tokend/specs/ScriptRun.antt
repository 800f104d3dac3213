-- The lines of a script that the program runs (own).
--   Mode             how a script is run
--   in_world         a script is run in a new world
--   IsScript         the events of a script
--   IsScriptRun      the lines of a script, by a run of its events
--   PrintsScript     the lines of the input's script were written
--   BeginsScript     a beginning of the lines was written
--   IsReadFault      the faults of an input that gives no events
--   IsScriptFault    the faults of a script that is run
--   LeavesScript     what a fault of a script leaves of the output
use Rattle.std.specs.Prelude.{◌≡◌, ◌≤◌, ◌⊎◌, ℕ, List, Option, None, IfSome, length, slice_get}
use Rattle.std.specs.Io.KnownBytes.{Appends}
use Rattle.tk_region.specs.SettingsFields.{SettingsFields}
use Rattle.tk_world.specs.Acts.{ActsBy}
use Rattle.tk_world.specs.Carrying.{in_place}
use Rattle.tk_world.specs.Headline.{RunStands}
use Rattle.tk_world.specs.State.{new_state}
use Rattle.tk_world.specs.WorldFields.{WorldFields, new_world}
use Rattle.tk_world.specs.declared.event.Event.{Event}
use Rattle.tk_world.specs.declared.event.Outcome.{Outcome}
use Rattle.tk_world.specs.Line.{HasWords}
use Rattle.tokend.specs.Script.{max_length, lines_of, AreEvents, AreShort, IsFirstBad}
use Rattle.tokend.specs.Script.{IsInputFault, words_at}
use Rattle.tk_world.specs.Printed.{lines_text}
use Rattle.tk_put.specs.Put.{AppendsFront}
use Rattle.tokend.specs.Status.{LeavesBegun}
use Rattle.tokend.specs.declared.fault.Fault.{Fault}
use Rattle.tokend.specs.declared.fault.Fault.TheVariants.{BadLine, Memory, Output}

-- how a script is run: the greatest length of a request, if there is a limit, the runs of its
-- events with their outcomes, and the faults that may end a run
pub record Mode : Type 1 where
  pub longest : Option ℕ
  pub Runs : List Event → List Outcome → Type 0
  pub Fails : Fault → Type 0

-- the events are run in a new world with these settings, which is a run from the state without
-- regions and bundles, or there is no memory for the outcomes
abbrev pub in_world : SettingsFields → Mode
in_world settings = record {
  longest = None;
  Runs = λ events outcomes. (after : WorldFields)
      × ActsBy in_place (new_world settings) events outcomes after
      × RunStands in_place (new_state settings) events outcomes after;
  Fails = λ fault. fault ≡ Memory;
}

-- the script and its requests are short enough, and these are its events, with their random words
pub record IsScript (longest : Option ℕ) (script : List ℕ) (events : List Event) : Type 0 where
  pub short : length script ≤ max_length
  pub found : AreEvents (lines_of script) events
  pub within : AreShort longest events
  pub words : (k : ℕ) → IfSome (slice_get events k) (HasWords (words_at k))

-- the events of the script are run, and the lines are those of their outcomes
pub record IsScriptRun (mode : Mode) (script : List ℕ) (lines : List ℕ) : Type 0 where
  pub events : List Event
  pub outcomes : List Outcome
  pub given : IsScript mode.longest script events
  pub run : mode.Runs events outcomes
  pub printed : lines ≡ lines_text events outcomes

-- the lines of the input's script were written behind what the output had
abbrev pub PrintsScript : Mode → Option (List ℕ) → Option (List ℕ) → Option (List ℕ) → Type 0
PrintsScript mode input old new =
    (lines : List ℕ) × IfSome input (λ script. IsScriptRun mode script lines)
    × Appends old new lines

-- a beginning of the lines of the input's script was written behind what the output had
abbrev pub BeginsScript : Mode → Option (List ℕ) → Option (List ℕ) → Option (List ℕ) → Type 0
BeginsScript mode input old new =
    (lines : List ℕ) × IfSome input (λ script. IsScriptRun mode script lines)
    × AppendsFront old new lines

-- the faults of an input that gives no events: the first bad line, or the input gives no script
abbrev pub IsReadFault : Option ℕ → Option (List ℕ) → Fault → Type 0
IsReadFault longest input (BadLine number) =
    IfSome input (λ script. (length script ≤ max_length) × IsFirstBad longest script number)
IsReadFault longest input fault = IsInputFault input fault

-- the faults of a script that is run: the input gives no events, or the run or the output fails
abbrev pub IsScriptFault : Mode → Option (List ℕ) → Fault → Type 0
IsScriptFault mode input fault =
    IsReadFault mode.longest input fault ⊎ (mode.Fails fault ⊎ (fault ≡ Output))

-- the output that failed has a beginning of the lines; other faults leave the output unchanged
abbrev pub LeavesScript : Mode → Option (List ℕ) → Fault → Option (List ℕ) → Option (List ℕ)
    → Type 0
LeavesScript mode input fault old new =
    LeavesBegun (BeginsScript mode input old new) fault old new
