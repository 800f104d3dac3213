-- What printing the facts of sources does (own).
--   known_of         the bytes of a source, if they are known
--   IsBadSource      the fault of a source with bad bytes
--   IsUnreadSource   the fault of a source that can't be read
--   IsReported       the program's result of printing a source
--   PrintsSource     a source is printed, or isn't to its end
--   PrintsEach       sources are printed one after the other
--   PrintsSources    the sources that the arguments name are printed
--   cut_text         the line of bytes that are dropped
--   TellsDropped     the number of bytes that are dropped is written
--   PrintsFacts      all sources are printed
--   BeginsFacts      what a fault leaves of the output
use Rattle.std.specs.Prelude.{◌≡◌, ◌⊎◌, ⊤, ℕ, ◌+◌, ◌-◌, ◌^◌, ◌<◌, min, false, List, [], ◌∷◌}
use Rattle.std.specs.Prelude.{◌++◌, map}
use Rattle.std.specs.Prelude.{codes, decimal, string_bytes, Option, None, Result, Ok, Err}
use Rattle.std.specs.Prelude.{if◌then◌else◌}
use Rattle.std.specs.Io.KnownBytes.{Keeps}
use Rattle.std.specs.Str.{bytes_eq}
use Rattle.clap.specs.Words.{Text}
use Rattle.tk_edge.specs.Told.{Change}
use Rattle.tk_listing.specs.Printing.{PrintsInput}
use Rattle.tk_listing.specs.declared.print.PrintFault.{PrintFault}
use Rattle.tk_listing.specs.declared.print.PrintFault.TheVariants as print
use Rattle.tokend.specs.Telling.{Writes, Writing}
use Rattle.tokend.specs.declared.fault.Fault.{Fault}
use Rattle.tokend.specs.declared.fault.Fault.TheVariants.{Facts, Output}
use Rattle.tokend.specs.declared.fault.FactsFault.TheVariants as facts
use Rattle.tokend.specs.declared.options.Sources.{Sources}

-- the bytes of a source, if they are known: those that are left of the standard input
abbrev pub known_of : Text → Option (List ℕ) → Option (List ℕ)
known_of name input = if bytes_eq name (codes "-") then input else None

-- the fault of a source with bad bytes at this offset; there may be no memory for the name
abbrev pub IsBadSource : Text → ℕ → Fault → Type 0
IsBadSource name offset (Facts (facts.Malformed text at)) =
    (string_bytes text ≡ name) × (at ≡ offset)
IsBadSource name offset (Facts facts.Memory) = ⊤
IsBadSource name offset fault = ⊥

-- the fault of a source that can't be read; there may be no memory for the name
abbrev pub IsUnreadSource : Text → Fault → Type 0
IsUnreadSource name (Facts (facts.CannotReadFile text)) = string_bytes text ≡ name
IsUnreadSource name (Facts facts.Memory) = ⊤
IsUnreadSource name fault = ⊥

-- the program's fault for that of a source
abbrev pub IsReportedAs : Text → PrintFault → Fault → Type 0
IsReportedAs name (print.Malformed offset) fault = IsBadSource name offset fault
IsReportedAs name print.CannotRead fault = IsUnreadSource name fault
IsReportedAs name print.Memory fault = fault ≡ Facts facts.Memory
IsReportedAs name print.Output fault = fault ≡ Output

-- the program's result of printing a source
abbrev pub IsReported : Text → Result ℕ PrintFault → Result ℕ Fault → Type 0
IsReported name (Ok cut) result = result ≡ Ok cut
IsReported name (Err why) (Ok n) = ⊥
IsReported name (Err why) (Err fault) = IsReportedAs name why fault

-- a source with these bytes, if they are known, is printed, or isn't to its end: it fails, or can't
-- be opened
abbrev pub PrintsSource : Text → Option (List ℕ) → Result ℕ Fault → Option (List ℕ)
    → Option (List ℕ) → Type 0
PrintsSource name known result old new =
    ((printed : Result ℕ PrintFault) × PrintsInput known printed old new
    × IsReported name printed result)
    ⊎ ((fault : Fault) × (result ≡ Err fault) × IsUnreadSource name fault × Keeps old new)

-- the number of bytes that are dropped of a source, and of those behind it
abbrev pub with_cut : ℕ → Result ℕ Fault → Result ℕ Fault
with_cut cut (Ok later) = Ok (min (cut + later) (2 ^ 64 - 1))
with_cut cut (Err fault) = Err fault

-- sources are printed one after the other, up to the first that isn't printed to its end; only
-- printing the standard input changes what is left of it
abbrev pub PrintsEach : List Text → Option (List ℕ) → Result ℕ Fault → Option (List ℕ)
    → Option (List ℕ) → Type 0
PrintsEach [] input result old new = (result ≡ Ok 0) × Keeps old new
PrintsEach (name ∷ more) input result old new =
    ((fault : Fault) × (result ≡ Err fault)
    × PrintsSource name (known_of name input) (Err fault) old new)
    ⊎ ((cut : ℕ) × (mid : Option (List ℕ)) × (left : Option (List ℕ)) × (later : Result ℕ Fault)
    × PrintsSource name (known_of name input) (Ok cut) old mid
    × (bytes_eq name (codes "-") ≡ false → left ≡ input)
    × PrintsEach more left later mid new × (result ≡ with_cut cut later))

-- the sources of these names are printed, or the standard input if there is no name
abbrev pub PrintsNamed : List Text → Option (List ℕ) → Result ℕ Fault → Option (List ℕ)
    → Option (List ℕ) → Type 0
PrintsNamed [] input result old new = PrintsSource (codes "-") input result old new
PrintsNamed (name ∷ more) input result old new = PrintsEach (name ∷ more) input result old new

-- the sources that the arguments name are printed
abbrev pub PrintsSources : Sources → Option (List ℕ) → Result ℕ Fault → Option (List ℕ)
    → Option (List ℕ) → Type 0
PrintsSources s input result old new =
    PrintsNamed (map string_bytes s.names.items) input result old new

-- the line of bytes that are dropped at the ends of sources
abbrev pub cut_text : ℕ → List ℕ
cut_text cut = codes "tokend: dropped " ++ (decimal cut ++ codes " bytes\n")

-- if bytes are dropped, the line of their number is written, or a beginning of it by a writer that
-- failed; otherwise nothing is written
abbrev pub TellsDropped : ℕ → Writing → Type 0
TellsDropped cut told =
    (cut ≡ 0 → told.after ≡ told.before)
    × (0 < cut → Writes told.before told.after (cut_text cut))

-- all sources are printed, the output is flushed, and the number of bytes that are dropped at their
-- ends is written
pub record PrintsFacts (s : Sources) (input : Option (List ℕ)) (output : Change)
    (faults : Writing) : Type 0 where
  pub cut : ℕ
  pub mid : Option (List ℕ)
  pub prints : PrintsSources s input (Ok cut) output.before mid
  pub kept : Keeps mid output.after
  pub told : TellsDropped cut faults

-- the fault of a source ended the printing; the output may fail at any time
abbrev pub IsEnd : Result ℕ Fault → Fault → Type 0
IsEnd ended (Facts fault) = ended ≡ Err (Facts fault)
IsEnd ended fault = ⊤

-- what a fault leaves of the output: what was printed when the printing ended
abbrev pub BeginsFacts : Sources → Option (List ℕ) → Fault → Option (List ℕ) → Option (List ℕ)
    → Type 0
BeginsFacts s input fault old new =
    (ended : Result ℕ Fault) × (mid : Option (List ℕ)) × PrintsSources s input ended old mid
    × Keeps mid new × IsEnd ended fault

-- a fault of a source
abbrev pub IsSourceFault : Fault → Type 0
IsSourceFault (Facts fault) = ⊤
IsSourceFault fault = ⊥

-- a fault of printing: the output's, or that of a source
abbrev pub IsFactsFault : Fault → Type 0
IsFactsFault Output = ⊤
IsFactsFault (Facts fault) = ⊤
IsFactsFault fault = ⊥
