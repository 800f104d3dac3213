-- What a service has done, from what its parts do. Key results:
--   listen_faults   a fault of the port or the output keeps a service from its first connection
--   bind_fault      a fault of making a socket is one of listening
--   bind_left       and leaves the output as it was
--   without_log     connections that were served without a log
--   has_opened      a service has run, from the prune on
--   has_run         a service has run, from its start on
--   service_run     a service has run, from its arguments on
--   opening_left    what a fault leaves of the output
use Rattle.std.specs.Option.{unwrap_or}
use Rattle.std.proofs.Common.{◌≡◌, ℕ, Bool, Option, Some, None, List, Result, Ok, Err}
use Rattle.std.proofs.KnownBytes.{Keeps-refl}
use Rattle.std.specs.Prelude.{IfErr, OnOk, String, is_some}
use Rattle.rand_chacha.specs.ChaCha.{ChaCha}
use Rattle.tk_edge.specs.EdgeFields.{EdgeFields}
use Rattle.tk_edge.specs.Told.{Change}
use Rattle.tk_region.specs.RegionFields.{RegionFields}
use Rattle.tokend.specs.ServiceRun.{HasOpened, HasRun, IsServiceRun, with_region}
use Rattle.tokend.specs.Serving.{Announces, IsBindFault, IsListenFault, IsStartFault}
use Rattle.tokend.specs.Serving.{LeavesAnnouncement, LeavesOpening, LeavesService}
use Rattle.tokend.specs.Starting.{IsStart, LoadsOld, PrunesOld}
use Rattle.tokend.specs.Telling.{Writing}
use Rattle.tokend.proofs.Runs.{begun_less}
use Rattle.tokend.specs.declared.fault.Fault.{Fault}
use Rattle.tokend.specs.declared.fault.Fault.TheVariants.{BadLine, BadLogFile, BadSeedFile}
use Rattle.tokend.specs.declared.fault.Fault.TheVariants.{CannotListen, CannotOpen, CannotRead}
use Rattle.tokend.specs.declared.fault.Fault.TheVariants.{CannotReadFile, Facts, Memory, Output}
use Rattle.tokend.specs.declared.fault.Fault.TheVariants.{PruneAhead, ScriptTooLong, SharedFolder}
use Rattle.tokend.specs.declared.fault.Fault.TheVariants.{SocketFailed, SocketInUse, Arguments}
use Rattle.tokend.specs.Turns.{Course, ServesLogged, ServesWith, keeps_in}
use Rattle.tokend.specs.declared.address.Addresses.{Addresses}
use Rattle.tokend.specs.declared.listen.Opening.{Opening}
use Rattle.tokend.specs.declared.options.Service.{Service}

-- a fault of listening is one of starting a service
listen_fault : (service : Service) (fault : Fault) → IsListenFault fault
    → IsStartFault service fault
listen_fault service CannotListen h = tt
listen_fault service SharedFolder h = tt
listen_fault service SocketInUse h = tt
listen_fault service PruneAhead h = absurd h
listen_fault service Output h = tt
listen_fault service Memory h = tt
listen_fault service (CannotOpen name) h = absurd h
listen_fault service BadLogFile h = absurd h
listen_fault service (Arguments error) h = absurd h
listen_fault service CannotRead h = absurd h
listen_fault service SocketFailed h = absurd h
listen_fault service (CannotReadFile name) h = absurd h
listen_fault service BadSeedFile h = absurd h
listen_fault service ScriptTooLong h = absurd h
listen_fault service (Facts why) h = absurd h
listen_fault service (BadLine number) h = absurd h

-- a fault of listening is one of the start of a service
pub listen_faults : {T : Type 0} (service : Service) (r : Result T Fault) → IfErr r IsListenFault
    → IfErr r (IsStartFault service)
listen_faults service (Ok x) h = tt
listen_faults service (Err fault) h = listen_fault service fault h

-- a fault of making a socket is one of listening, and leaves the output as it was
pub bind_fault : (fault : Fault) → IsBindFault fault → IsListenFault fault
bind_fault CannotListen h = tt
bind_fault SharedFolder h = tt
bind_fault SocketInUse h = tt
bind_fault PruneAhead h = absurd h
bind_fault Output h = absurd h
bind_fault Memory h = absurd h
bind_fault (CannotOpen name) h = absurd h
bind_fault BadLogFile h = absurd h
bind_fault (Arguments error) h = absurd h
bind_fault CannotRead h = absurd h
bind_fault SocketFailed h = absurd h
bind_fault (CannotReadFile name) h = absurd h
bind_fault BadSeedFile h = absurd h
bind_fault ScriptTooLong h = absurd h
bind_fault (Facts why) h = absurd h
bind_fault (BadLine number) h = absurd h

-- if nothing could be bound, nothing was announced
pub bind_left : (opening : Opening) (at : Addresses) (fault : Fault) (output : Option (List ℕ))
    → IsBindFault fault → LeavesAnnouncement opening at fault output output
bind_left opening at CannotListen output h = Keeps-refl output
bind_left opening at SharedFolder output h = Keeps-refl output
bind_left opening at SocketInUse output h = Keeps-refl output
bind_left opening at PruneAhead output h = absurd h
bind_left opening at Output output h = absurd h
bind_left opening at Memory output h = absurd h
bind_left opening at (CannotOpen name) output h = absurd h
bind_left opening at BadLogFile output h = absurd h
bind_left opening at (Arguments error) output h = absurd h
bind_left opening at CannotRead output h = absurd h
bind_left opening at SocketFailed output h = absurd h
bind_left opening at (CannotReadFile name) output h = absurd h
bind_left opening at BadSeedFile output h = absurd h
bind_left opening at ScriptTooLong output h = absurd h
bind_left opening at (Facts why) output h = absurd h
bind_left opening at (BadLine number) output h = absurd h

module _ {L : Type 0} (kept : List ℕ → Option (List ℕ)) (holds : L → Option (List ℕ))
    (opens : List ℕ → L → Type 0) where
  -- connections that were served without a log
  pub without_log : {A T : Type 0} (name : Option (String A)) (words : ChaCha) (requests : Option ℕ)
      (keeps : Bool) (repeat : ℕ) (has_inner log_taken : Bool) (s : Course) (r : Result T Fault)
      → name ≡ None
      → OnOk r
      (ServesWith words requests keeps repeat has_inner log_taken s
      (record { before = None; after = None }))
      → OnOk r (ServesLogged holds opens name words requests keeps repeat has_inner log_taken s)
  without_log None words requests keeps repeat has_inner log_taken s (Ok x) none h = h
  without_log (Some name) words requests keeps repeat has_inner log_taken s (Ok x) none h =
      absurd (cc)
  without_log name words requests keeps repeat has_inner log_taken s (Err fault) none h = tt

  -- a service that has pruned its old facts, announced itself and served has opened
  pub has_opened : {T : Type 0} (service : Service) (dropped : ℕ) (start : EdgeFields)
      (words : ChaCha) (pruned : Option ℕ) (region : RegionFields) (end : EdgeFields)
      (output : Change) (faults : Writing) (r : Result T Fault)
      → PrunesOld service.files.prune start.region (Ok pruned) region
      → OnOk r
      (Announces (record { dropped = dropped; pruned = pruned }) service.at output.before
      output.after)
      → OnOk r
      (ServesLogged holds opens service.files.log words service.limits.requests
      (keeps_in service.limits.keep) (unwrap_or service.limits.repeat 0) (is_some service.at.inner)
      service.files.log_taken
      (record {
        start = with_region start region;
        end = end;
        faults = faults;
        prunes = is_some service.limits.prune_margin;
      }))
      → OnOk r (HasOpened holds opens service dropped start words output faults)
  has_opened service dropped start words pruned region end output faults
      (Ok x) prunes announced served =
      record {
        pruned = pruned;
        region = region;
        prunes = prunes;
        announced = announced;
        end = end;
        served = served;
      }
  has_opened service dropped start words pruned region end output faults
      (Err fault) prunes announced served = tt

  -- a service that has loaded its old log and opened has run
  pub has_run : {T : Type 0} (service : Service) (start : EdgeFields) (words : ChaCha) (dropped : ℕ)
      (region : RegionFields) (output : Change) (faults : Writing) (r : Result T Fault)
      → LoadsOld kept service.files.load start.region (Ok dropped) region
      → OnOk r
      (HasOpened holds opens service dropped (with_region start region) words output faults)
      → OnOk r (HasRun kept holds opens service start words output faults)
  has_run service start words dropped region output faults (Ok x) loaded opened =
      record { dropped = dropped; region = region; loaded = loaded; opened = opened }
  has_run service start words dropped region output faults (Err fault) loaded opened = tt

  -- a service that has started and run is what the program promises
  pub service_run : {T : Type 0} (service : Service) (edge : EdgeFields) (words : ChaCha)
      (output : Change) (faults : Writing) (r : Result T Fault)
      → IsStart service edge words
      → OnOk r (HasRun kept holds opens service edge words output faults)
      → OnOk r (IsServiceRun kept holds opens service output faults)
  service_run service edge words output faults (Ok x) start h =
      record { edge = edge; words = words; start = start; run = h }
  service_run service edge words output faults (Err fault) start h = tt

-- what a fault leaves of the output, by what was dropped of the old log
pub opening_left : {T : Type 0} (kept : List ℕ → Option (List ℕ)) (service : Service)
    (start region : RegionFields) (dropped : ℕ) (old new : Option (List ℕ)) (r : Result T Fault)
    → LoadsOld kept service.files.load start (Ok dropped) region
    → IfErr r (λ fault. LeavesOpening service dropped fault old new)
    → IfErr r (λ fault. LeavesService kept service start fault old new)
opening_left kept service start region dropped old new (Ok x) loaded h = tt
opening_left kept service start region dropped old new (Err fault) loaded h =
    begun_less _ _ fault old new (λ begun. (dropped, region, loaded, begun)) h
