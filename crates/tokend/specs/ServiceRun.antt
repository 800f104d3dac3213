-- What a service that ended well has done (own). Throughout, `kept` has the bytes of the file of a
-- name, if they are known, `holds` those of a log, and `opens` says which log a name opens.
--   HasOpened      the service has run, from the prune on
--   HasRun         the service has run, from its start on
--   IsServiceRun   the service has run, from reading its seed on
use Rattle.std.specs.Prelude.{ℕ, List, Option, Ok, is_some}
use Rattle.std.specs.Option.{unwrap_or}
use Rattle.rand_chacha.specs.ChaCha.{ChaCha}
use Rattle.tk_edge.specs.EdgeFields.{EdgeFields}
use Rattle.tk_edge.specs.Told.{Change}
use Rattle.tk_region.specs.RegionFields.{RegionFields}
use Rattle.tokend.specs.Turns.{ServesLogged, keeps_in}
use Rattle.tokend.specs.Serving.{Announces}
use Rattle.tokend.specs.Starting.{IsStart, LoadsOld, PrunesOld}
use Rattle.tokend.specs.Telling.{Writing}
use Rattle.tokend.specs.declared.options.Service.{Service}

-- the edge with another region
abbrev pub with_region : EdgeFields → RegionFields → EdgeFields
with_region edge region =
    record {
      region = region;
      terms = edge.terms;
      sealed = edge.sealed;
    }

-- The region was pruned if that was requested, the announcement written, and as many connections
-- as requested were served by the region that was left, with the service's log. Each connection has
-- the next random words of the generator. `dropped` is how many bytes of the old log were dropped.
pub record HasOpened {L : Type 0} (holds : L → Option (List ℕ)) (opens : List ℕ → L → Type 0)
    (service : Service) (dropped : ℕ) (start : EdgeFields) (words : ChaCha) (output : Change)
    (faults : Writing) : Type 0 where
  pub pruned : Option ℕ
  pub region : RegionFields
  pub prunes : PrunesOld service.files.prune start.region (Ok pruned) region
  pub announced : Announces (record { dropped = dropped; pruned = pruned }) service.at
      output.before output.after
  pub end : EdgeFields
  pub served : ServesLogged holds opens service.files.log words service.limits.requests
      (keeps_in service.limits.keep) (unwrap_or service.limits.repeat 0)
      (is_some service.at.inner) service.files.log_taken
      (record {
        start = with_region start region;
        end = end;
        faults = faults;
        prunes = is_some service.limits.prune_margin;
      })

-- the old log was loaded, and the service opened with the region that came of it
pub record HasRun {L : Type 0} (kept : List ℕ → Option (List ℕ)) (holds : L → Option (List ℕ))
    (opens : List ℕ → L → Type 0) (service : Service) (start : EdgeFields) (words : ChaCha)
    (output : Change) (faults : Writing) : Type 0 where
  pub dropped : ℕ
  pub region : RegionFields
  pub loaded : LoadsOld kept service.files.load start.region (Ok dropped) region
  pub opened : HasOpened holds opens service dropped (with_region start region) words output faults

-- the service has run from some start that its seed gives
pub record IsServiceRun {L : Type 0} (kept : List ℕ → Option (List ℕ))
    (holds : L → Option (List ℕ)) (opens : List ℕ → L → Type 0) (service : Service)
    (output : Change) (faults : Writing) : Type 0 where
  pub edge : EdgeFields
  pub words : ChaCha
  pub start : IsStart service edge words
  pub run : HasRun kept holds opens service edge words output faults
