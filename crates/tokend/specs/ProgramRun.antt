-- What a run of the program does (own).
--   TellsFacts      facts were printed, or sources were checked
--   PrintsLines     the lines of a script were written
--   BeginsLines     a beginning of the lines of a script, or of facts, was written
--   ServesAsked     a service that the arguments request has run
--   BeginsToServe   a beginning of a service's announcement was written
--   FailsToServe    a fault keeps a service from its first connection
--   FailsToRun      a fault of a script that the arguments request
--   IsDone          a run without a fault
--   IsFaultFor      the faults that a run may have
--   Leaves          what a fault leaves of the output
--   ReportsFault    what is written of a fault
use Rattle.std.specs.Prelude.{◌≡◌, ◌⊎◌, ⊤, ℕ, List, Option, IfSome}
use Rattle.clap.specs.Words.{Text, kind_of}
use Rattle.tk_region.specs.SettingsFields.{SettingsFields}
use Rattle.tk_edge.specs.Told.{Change}
use Rattle.tokend.specs.ServiceRun.{IsServiceRun}
use Rattle.tokend.specs.Serving.{BeginsAnnouncement, IsServiceFault}
use Rattle.tokend.specs.Task.{
  script_task,
  loopback_task,
  Asks,
  AsksToShow,
  IsNoShow,
  IsRefusalOf,
}
use Rattle.tokend.specs.ScriptRun.{
  in_world,
  PrintsScript,
  BeginsScript,
  IsScriptFault,
}
use Rattle.tokend.specs.LoopbackRun.{by_loopback}
use Rattle.tokend.specs.Starting.{first_region}
use Rattle.tokend.specs.Status.{fault_text, LeavesBegun}
use Rattle.tokend.specs.Telling.{Writer, Writes, Writing}
use Rattle.tokend.specs.declared.fault.Fault.{Fault}
use Rattle.tokend.specs.declared.fault.Fault.TheVariants.{Memory, Output, Arguments}
use Rattle.tokend.specs.declared.options.Check.{Check as CheckValue}
use Rattle.tokend.specs.declared.options.Service.{Service}
use Rattle.tokend.specs.declared.options.Sources.{Sources}
use Rattle.tokend.specs.declared.options.Task.TheVariants.{Serve, Facts, Check}
use Rattle.tokend.specs.CheckRun.{BeginsCheck, ChecksFacts}
use Rattle.tokend.specs.FactsRun.{BeginsFacts, IsFactsFault, PrintsFacts}

-- the arguments request facts, which were printed, or a check, whose sources can be loaded
abbrev pub TellsFacts : List Text → Option (List ℕ) → Change → Writing → Type 0
TellsFacts words input output faults =
    ((sources : Sources) × Asks words (Facts sources) × PrintsFacts sources input output faults)
    ⊎ ((check : CheckValue) × Asks words (Check check) × ChecksFacts check input output faults)

-- the arguments request facts or a check, and a beginning of the lines was written before the fault
abbrev pub BeginsToTell : List Text → Option (List ℕ) → Fault → Option (List ℕ) → Option (List ℕ)
    → Type 0
BeginsToTell words input fault old new =
    ((sources : Sources) × Asks words (Facts sources) × BeginsFacts sources input fault old new)
    ⊎ ((check : CheckValue) × Asks words (Check check) × BeginsCheck check input fault old new)

-- the arguments request facts or a check, and the fault is one of their sources
abbrev pub FailsToTell : List Text → Fault → Type 0
FailsToTell words fault =
    (((sources : Sources) × Asks words (Facts sources))
    ⊎ ((check : CheckValue) × Asks words (Check check))) × IsFactsFault fault

-- the arguments request a script, by sockets or not, and its lines were written
abbrev pub PrintsLines : List Text → Option (List ℕ) → Change → Type 0
PrintsLines words input output =
    ((settings : SettingsFields) × Asks words (script_task settings)
    × PrintsScript (in_world settings) input output.before output.after)
    ⊎ ((settings : SettingsFields) × Asks words (loopback_task settings)
    × PrintsScript (by_loopback settings) input output.before output.after)

-- the arguments request a script, by sockets or not, or facts, and a beginning of the lines was
-- written before the fault
abbrev pub BeginsLines : List Text → Option (List ℕ) → Fault → Option (List ℕ) → Option (List ℕ)
    → Type 0
BeginsLines words input fault old new =
    ((settings : SettingsFields) × Asks words (script_task settings)
    × BeginsScript (in_world settings) input old new)
    ⊎ (((settings : SettingsFields) × Asks words (loopback_task settings)
    × BeginsScript (by_loopback settings) input old new)
    ⊎ BeginsToTell words input fault old new)

-- The arguments request a service, and it has run: it was announced, and its connections were
-- served. `kept` has the bytes of the file of a name, if they are known, `holds` those of a log,
-- and `opens` says which log a name opens, in parts of a size or in one file.
abbrev pub ServesAsked : {L : Type 0} → (List ℕ → Option (List ℕ)) → (L → Option (List ℕ))
    → (Option ℕ → List ℕ → L → Type 0) → List Text → Change → Writing → Type 0
ServesAsked kept holds opens words output faults =
    (service : Service) × Asks words (Serve service)
    × IsServiceRun kept holds (opens service.files.log_part) service output faults

-- the arguments request a service, and a beginning of its announcement was written
abbrev pub BeginsToServe : (List ℕ → Option (List ℕ)) → List Text → Option (List ℕ)
    → Option (List ℕ) → Type 0
BeginsToServe kept words old new =
    (service : Service) × Asks words (Serve service)
    × BeginsAnnouncement kept service (first_region service) old new

-- the arguments request a service that the fault keeps from its first connection
abbrev pub FailsToServe : List Text → Fault → Type 0
FailsToServe words fault =
    (service : Service) × Asks words (Serve service) × IsServiceFault service fault

-- the arguments request a script, by sockets or not, and the fault is one of that script, or they
-- request facts, and the fault is one of their sources
abbrev pub FailsToRun : List Text → Option (List ℕ) → Fault → Type 0
FailsToRun words input fault =
    ((settings : SettingsFields) × Asks words (script_task settings)
    × IsScriptFault (in_world settings) input fault)
    ⊎ (((settings : SettingsFields) × Asks words (loopback_task settings)
    × IsScriptFault (by_loopback settings) input fault)
    ⊎ FailsToTell words fault)

-- Facts were reported, or a service has run, each with what it wrote of faults. Or the lines of a
-- script were written, or the arguments request help or the version: then nothing is written of
-- faults.
abbrev pub IsDone : {L : Type 0} → (List ℕ → Option (List ℕ)) → (L → Option (List ℕ))
    → (Option ℕ → List ℕ → L → Type 0) → List Text → Option (List ℕ) → Change → Writing → Type 0
IsDone kept holds opens words input output faults =
    TellsFacts words input output faults
    ⊎ (ServesAsked kept holds opens words output faults
    ⊎ ((PrintsLines words input output ⊎ AsksToShow words) × (faults.after ≡ faults.before)))

-- The faults that a run may have. Memory and the output may fail in any run. Other faults are those
-- of the arguments, of the script that they request, or of the service that they request.
abbrev pub IsFaultFor : List Text → Option (List ℕ) → Fault → Type 0
IsFaultFor words input (Arguments error) = IsRefusalOf words (kind_of error)
    × IsNoShow (kind_of error)
IsFaultFor words input Memory = ⊤
IsFaultFor words input Output = ⊤
IsFaultFor words input fault = FailsToServe words fault ⊎ FailsToRun words input fault

-- the output that failed has a beginning of what would have been printed, and the fault of a source
-- of facts leaves the lines before it; other faults leave the output unchanged
abbrev pub Leaves : (List ℕ → Option (List ℕ)) → List Text → Option (List ℕ) → Fault
    → Option (List ℕ) → Option (List ℕ) → Type 0
Leaves kept words input fault old new =
    LeavesBegun (BeginsLines words input fault old new
    ⊎ (BeginsToServe kept words old new ⊎ AsksToShow words)) fault old new

-- the fault's line was written, or its beginning by a writer that failed; clap writes the faults of
-- arguments
abbrev pub ReportsFault : Fault → Writer → Writer → Type 0
ReportsFault fault old new = IfSome (fault_text fault) (Writes old new)
