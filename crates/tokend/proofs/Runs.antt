-- Runs of the program, from what the parts of a run do. Key results:
--   script_printed    the lines of a script were written
--   script_begun      a beginning of the lines was written
--   read_fault        a fault of reading a script, by the input's bytes
--   faults_of_task    a fault of the task is the program's
--   left_by_task      what a task's fault leaves is what the program's leaves
--   script_done       the program has done what the script's run did
--   service_done      the program has done what the service did
--   ended_well        a run without a fault has done that
--   ended_badly       a run with a fault has that fault's status and line
use Rattle.std.proofs.Common.{◌≡◌, ◌⊎◌, ℕ, List, length, Option, Some, None, Result, Ok, Err, subst}
use Rattle.std.proofs.Common.{sym, refl, inl, inr, arith, ◌<◌, ◌≤◌, ◌∙◌}
use Rattle.std.specs.Prelude.{IfSome, IfErr, OnOk, OnErr, MatchResult}
use Rattle.std.specs.Io.KnownBytes.{Appends}
use Rattle.clap.specs.Words.{Text}
use Rattle.tk_world.specs.Printed.{lines_text}
use Rattle.tk_put.specs.Put.{AppendsFront}
use Rattle.tk_world.specs.declared.event.Event.{Event}
use Rattle.tk_world.specs.declared.event.Outcome.{Outcome}
use Rattle.tk_edge.specs.Told.{Change}
use Rattle.tokend.specs.ServiceRun.{IsServiceRun}
use Rattle.tokend.specs.LoopbackRun.{by_loopback}
use Rattle.tokend.specs.Task.{Asks, AsksToShow}
use Rattle.tokend.specs.Script.{max_length, IsFaultOf, IsFirstBad}
use Rattle.tokend.specs.ScriptRun.{in_world, IsReadFault, IsScript, IsScriptFault, IsScriptRun}
use Rattle.tokend.specs.ScriptRun.{LeavesScript, Mode, PrintsScript}
use Rattle.tokend.specs.ProgramRun.{BeginsLines, BeginsToServe, FailsToRun, FailsToServe, IsDone}
use Rattle.tokend.specs.ProgramRun.{IsFaultFor, Leaves, PrintsLines, ReportsFault}
use Rattle.tokend.specs.Status.{status_of, LeavesBegun}
use Rattle.tokend.specs.declared.options.Service.{Service}
use Rattle.tokend.specs.declared.options.Task.TheVariants.{Serve}
use Rattle.tokend.specs.declared.options.Task.TheVariants.{Check, Facts as PrintFacts}
use Rattle.tokend.specs.declared.options.Check.{Check as CheckValue}
use Rattle.tokend.specs.declared.options.Sources.{Sources}
use Rattle.tokend.specs.CheckRun.{BeginsCheck, ChecksFacts}
use Rattle.tokend.specs.FactsRun.{BeginsFacts, PrintsFacts}
use Rattle.tokend.specs.Telling.{Writer, Writing}
use Rattle.tokend.specs.declared.fault.Fault.{Fault}
use Rattle.tokend.specs.declared.fault.Fault.TheVariants.{BadLine, BadLogFile, BadSeedFile}
use Rattle.tokend.specs.declared.fault.Fault.TheVariants.{CannotListen, CannotOpen, CannotRead}
use Rattle.tokend.specs.declared.fault.Fault.TheVariants.{CannotReadFile, Facts, Memory, Output}
use Rattle.tokend.specs.declared.fault.Fault.TheVariants.{PruneAhead, ScriptTooLong, SharedFolder}
use Rattle.tokend.specs.declared.fault.Fault.TheVariants.{SocketFailed, SocketInUse, Arguments}
use Rattle.tokend.specs.declared.fault.FactsFault.TheVariants as facts

-- the run of a script that was read, if the input's bytes are known
script_run : (mode : Mode) (input : Option (List ℕ)) (events : List Event) (outcomes : List Outcome)
    → IfSome input (λ script. IsScript mode.longest script events) → mode.Runs events outcomes
    → IfSome input (λ script. IsScriptRun mode script (lines_text events outcomes))
script_run mode None events outcomes given run = tt
script_run mode (Some script) events outcomes given run =
    record { events = events; outcomes = outcomes; given = given; run = run; printed = refl }

-- the lines of a script that was read were written
pub script_printed : {T : Type 0} (mode : Mode) (input : Option (List ℕ)) (events : List Event)
    (outcomes : List Outcome) (old new : Option (List ℕ)) (r : Result T Fault)
    → IfSome input (λ script. IsScript mode.longest script events) → mode.Runs events outcomes
    → OnOk r (Appends old new (lines_text events outcomes))
    → OnOk r (PrintsScript mode input old new)
script_printed mode input events outcomes old new (Ok x) given run appended =
    (lines_text events outcomes, script_run mode input events outcomes given run, appended)
script_printed mode input events outcomes old new (Err fault) given run appended = tt

-- a beginning of the lines of a script was written, if the output failed
pub script_begun : {T : Type 0} (mode : Mode) (input : Option (List ℕ)) (events : List Event)
    (outcomes : List Outcome) (old new : Option (List ℕ)) (r : Result T Fault)
    → IfSome input (λ script. IsScript mode.longest script events) → mode.Runs events outcomes
    → IfErr r (λ fault. (fault ≡ Output) × AppendsFront old new (lines_text events outcomes))
    → IfErr r (λ fault. LeavesScript mode input fault old new)
script_begun mode input events outcomes old new (Ok x) given run begun = tt
script_begun mode input events outcomes old new (Err fault) given run begun =
    subst (λ f. LeavesScript mode input f old new) (sym begun.0)
    (lines_text events outcomes, script_run mode input events outcomes given run, begun.1)

-- a fault of a script is one of the input, whose bytes it is if these are known
pub read_fault : {T : Type 0} (longest : Option ℕ) (input : Option (List ℕ)) (script : List ℕ)
    (r : Result T Fault)
    → length script ≤ max_length → IfSome input (λ bytes. script ≡ bytes)
    → IfErr r (IsFaultOf longest script) → IfErr r (IsReadFault longest input)
read_fault longest input script (Ok x) short whole h = tt
read_fault longest input script (Err fault) short whole h = of fault h
  where
    first : (number : ℕ) → IsFirstBad longest script number → (known : Option (List ℕ))
        → IfSome known (λ bytes. script ≡ bytes)
        → IfSome known (λ bytes. (length bytes ≤ max_length) × IsFirstBad longest bytes number)
    first number bad None same = tt
    first number bad (Some bytes) same =
        subst (λ s. (length s ≤ max_length) × IsFirstBad longest s number) same (short, bad)

    of : (fault : Fault) → IsFaultOf longest script fault → IsReadFault longest input fault
    of Memory h = tt
    of (BadLine number) h = first number h input whole
    of (Arguments error) h = absurd h
    of CannotRead h = absurd h
    of (CannotReadFile name) h = absurd h
    of (CannotOpen name) h = absurd h
    of CannotListen h = absurd h
    of SharedFolder h = absurd h
    of SocketInUse h = absurd h
    of PruneAhead h = absurd h
    of SocketFailed h = absurd h
    of BadSeedFile h = absurd h
    of BadLogFile h = absurd h
    of ScriptTooLong h = absurd h
    of (Facts why) h = absurd h
    of Output h = absurd h

-- the faults of a task are those of the program
task_fault : (words : List Text) (input : Option (List ℕ)) (fault : Fault)
    → FailsToServe words fault ⊎ FailsToRun words input fault → IsFaultFor words input fault
task_fault words input (Arguments error) h = absurd (none h)
  where
    none : FailsToServe words (Arguments error) ⊎ FailsToRun words input (Arguments error) → ⊥
    none (inl serves) = serves.2
    none (inr (inl runs)) = by runs.2
      where
        by : IsScriptFault (in_world runs.0) input (Arguments error) → ⊥
        by (inl h) = h
        by (inr (inl e)) = absurd (cc)
        by (inr (inr e)) = absurd (cc)
    none (inr (inr (inr tells))) = tells.1
    none (inr (inr (inl runs))) = by runs.2
      where
        by : IsScriptFault (by_loopback runs.0) input (Arguments error) → ⊥
        by (inl h) = h
        by (inr (inl h)) = h
        by (inr (inr e)) = absurd (cc)
task_fault words input Memory h = tt
task_fault words input Output h = tt
task_fault words input CannotRead h = h
task_fault words input (CannotReadFile name) h = h
task_fault words input (CannotOpen name) h = h
task_fault words input CannotListen h = h
task_fault words input SharedFolder h = h
task_fault words input SocketInUse h = h
task_fault words input PruneAhead h = h
task_fault words input SocketFailed h = h
task_fault words input BadSeedFile h = h
task_fault words input BadLogFile h = h
task_fault words input ScriptTooLong h = h
task_fault words input (BadLine number) h = h
task_fault words input (Facts why) h = h

-- a fault of a task is one of the program, for these arguments
pub faults_of_task : {T : Type 0} (words : List Text) (input : Option (List ℕ)) (P : Fault → Type 0)
    (r : Result T Fault)
    → ((fault : Fault) → P fault → FailsToServe words fault ⊎ FailsToRun words input fault)
    → IfErr r P → IfErr r (IsFaultFor words input)
faults_of_task words input P (Ok x) f h = tt
faults_of_task words input P (Err fault) f h = task_fault words input fault (f fault h)

-- what a fault leaves, by less than all that was to be written
pub begun_less : (A B : Type 0) (fault : Fault) (old new : Option (List ℕ)) → (A → B)
    → LeavesBegun A fault old new → LeavesBegun B fault old new
begun_less A B Output old new f h = f h
begun_less A B (Arguments error) old new f h = h
begun_less A B CannotRead old new f h = h
begun_less A B (CannotReadFile name) old new f h = h
begun_less A B (CannotOpen name) old new f h = h
begun_less A B CannotListen old new f h = h
begun_less A B SharedFolder old new f h = h
begun_less A B SocketInUse old new f h = h
begun_less A B PruneAhead old new f h = h
begun_less A B SocketFailed old new f h = h
begun_less A B BadSeedFile old new f h = h
begun_less A B BadLogFile old new f h = h
begun_less A B ScriptTooLong old new f h = h
begun_less A B (BadLine number) old new f h = h
begun_less A B Memory old new f h = h
begun_less A B (Facts why) old new f h = f h

-- what a task leaves on the output is what the program leaves, for these arguments
pub left_by_task : {T : Type 0} (kept : List ℕ → Option (List ℕ)) (words : List Text)
    (input old new : Option (List ℕ)) (A : Type 0) (r : Result T Fault)
    → (A → (fault : Fault)
    → BeginsLines words input fault old new ⊎ (BeginsToServe kept words old new ⊎ AsksToShow words))
    → IfErr r (λ fault. LeavesBegun A fault old new)
    → IfErr r (λ fault. Leaves kept words input fault old new)
left_by_task kept words input old new A (Ok x) f h = tt
left_by_task kept words input old new A (Err fault) f h =
    begun_less A _ fault old new (λ a. f a fault) h

-- what a fault of facts leaves is what the program's leaves
pub left_by_facts : {T : Type 0} (kept : List ℕ → Option (List ℕ)) (words : List Text)
    (input old new : Option (List ℕ)) (sources : Sources) (r : Result T Fault)
    → Asks words (PrintFacts sources)
    → IfErr r (λ fault. LeavesBegun (BeginsFacts sources input fault old new) fault old new)
    → IfErr r (λ fault. Leaves kept words input fault old new)
left_by_facts kept words input old new sources (Ok x) asks h = tt
left_by_facts kept words input old new sources (Err fault) asks h =
    begun_less (BeginsFacts sources input fault old new) _ fault old new
    (λ begun. inl (inr (inr (inl (sources, asks, begun))))) h

-- what a fault of a check leaves is what the program's leaves
pub left_by_check : {T : Type 0} (kept : List ℕ → Option (List ℕ)) (words : List Text)
    (input old new : Option (List ℕ)) (check : CheckValue) (r : Result T Fault)
    → Asks words (Check check)
    → IfErr r (λ fault. LeavesBegun (BeginsCheck check input fault old new) fault old new)
    → IfErr r (λ fault. Leaves kept words input fault old new)
left_by_check kept words input old new check (Ok x) asks h = tt
left_by_check kept words input old new check (Err fault) asks h =
    begun_less (BeginsCheck check input fault old new) _ fault old new
    (λ begun. inl (inr (inr (inr (check, asks, begun))))) h

-- ---- what a run without a fault has done

module _ {L : Type 0} (kept : List ℕ → Option (List ℕ)) (holds : L → Option (List ℕ))
    (opens : Option ℕ → List ℕ → L → Type 0) (words : List Text) (input : Option (List ℕ))
    (output : Change) where
  -- the facts that were printed are the program's lines
  pub facts_done : {T : Type 0} (faults : Writing) (sources : Sources) (r : Result T Fault)
      → Asks words (PrintFacts sources)
      → OnOk r (PrintsFacts sources input output faults)
      → OnOk r (IsDone kept holds opens words input output faults)
  facts_done faults sources (Ok x) asks h = inl (inl (sources, asks, h))
  facts_done faults sources (Err fault) asks h = tt

  -- the line of a check is the program's
  pub check_done : {T : Type 0} (faults : Writing) (check : CheckValue) (r : Result T Fault)
      → Asks words (Check check)
      → OnOk r (ChecksFacts check input output faults)
      → OnOk r (IsDone kept holds opens words input output faults)
  check_done faults check (Ok x) asks h = inl (inr (check, asks, h))
  check_done faults check (Err fault) asks h = tt

  -- the lines that a script's run printed are the program's
  pub script_done : {T : Type 0} (writer : Writer) (P : Type 0) (r : Result T Fault)
      → (P → PrintsLines words input output) → OnOk r P
      → OnOk r
      (IsDone kept holds opens words input output (record { before = writer; after = writer }))
  script_done writer P (Ok x) f h = inr (inr (inl (f h), refl))
  script_done writer P (Err fault) f h = tt

  -- a service that has run is the program's end, whatever faults its connections had
  pub service_done : {T : Type 0} (faults : Writing) (service : Service) (r : Result T Fault)
      → Asks words (Serve service)
      → OnOk r (IsServiceRun kept holds (opens service.files.log_part) service output faults)
      → OnOk r (IsDone kept holds opens words input output faults)
  service_done faults service (Ok x) asks h = inr (inl (service, asks, h))
  service_done faults service (Err fault) asks h = tt

-- the status of a fault isn't 0
no_status : (fault : Fault) → status_of fault ≡ 0 → ⊥
no_status (Arguments error) e = absurd (cc)
no_status CannotRead e = absurd (cc)
no_status (CannotReadFile name) e = absurd (cc)
no_status (CannotOpen name) e = absurd (cc)
no_status CannotListen e = absurd (cc)
no_status SharedFolder e = absurd (cc)
no_status SocketInUse e = absurd (cc)
no_status PruneAhead e = absurd (cc)
no_status SocketFailed e = absurd (cc)
no_status BadSeedFile e = absurd (cc)
no_status BadLogFile e = absurd (cc)
no_status ScriptTooLong e = absurd (cc)
no_status (BadLine number) e = absurd (cc)
no_status Memory e = absurd (cc)
no_status (Facts (facts.Malformed name offset)) e = absurd (cc)
no_status (Facts (facts.Refused name offset)) e = absurd (cc)
no_status (Facts (facts.CannotReadFile name)) e = absurd (cc)
no_status (Facts facts.Memory) e = absurd (cc)
no_status Output e = absurd (cc)

-- how a run ends: with its status, and with the line of its fault
abbrev pub Ends : {E T : Type 0} → (E → Writer) → Result T Fault → ℕ → E → E → Type 0
Ends view ran status old new = MatchResult ran (λ _. (status ≡ 0) × (new ≡ old))
    (λ fault. (status ≡ status_of fault) × ReportsFault fault (view old) (view new))

-- what a run without a fault has done, if nothing is written afterwards
pub ended_well : {E T : Type 0} (view : E → Writer) (P : E → Type 0) (ran : Result T Fault)
    (status : ℕ) (mid new : E)
    → Ends view ran status mid new → OnOk ran (P mid) → status ≡ 0 → P new
ended_well view P (Ok x) status mid new ends h e = subst P (sym ends.1) h
ended_well view P (Err fault) status mid new ends h e = absurd (no_status fault (sym ends.0 ∙ e))

module _ (kept : List ℕ → Option (List ℕ)) (words : List Text)
    (input output output_new : Option (List ℕ)) where
  -- a program that ends with a status above 0 has such a fault, and reports it
  pub ended_badly : {E T : Type 0} (view : E → Writer) (ran : Result T Fault) (status k : ℕ)
      (old mid new : E)
      → Ends view ran status mid new → IfErr ran (IsFaultFor words input)
      → IfErr ran (λ fault. Leaves kept words input fault output output_new) → OnErr ran (mid ≡ old)
      → status ≡ k → 0 < k
      → (fault : Fault) × (status_of fault ≡ k) × IsFaultFor words input fault
      × Leaves kept words input fault output output_new × ReportsFault fault (view old) (view new)
  ended_badly view (Ok x) status k old mid new ends faults left silent e some =
      absurd (omega (arith, ends.0, e, some))
  ended_badly view (Err fault) status k old mid new ends faults left silent e some = (
    fault,
    sym ends.0 ∙ e,
    faults,
    left,
    subst (λ m. ReportsFault fault (view m) (view new)) silent ends.1,
  )
