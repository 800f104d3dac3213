-- The start of a service (own).
--   first_edge    the edge of the region before any log is loaded
--   first_words   the generator of random words, by the seed
--   IsStart       the start of a service
--   IsReportedAs  the program's result of loading a log
--   LoadsFile     what the file of a name brings
--   LoadsOld      what the old log brings, if there is one
--   IsEmptyLog    a log that was opened is empty
--   PrunesOld     what a prune takes from the region that was loaded, if one is requested
use Rattle.std.specs.Prelude.{
  ◌≡◌,
  ◌⊎◌,
  ⊤,
  ℕ,
  false,
  List,
  [],
  length,
  Option,
  Some,
  None,
  IfSome,
  Result,
  Ok,
  Err,
  String,
  string_bytes,
}
use Rattle.tk_store.specs.StoreFields.{empty_store}
use Rattle.rand_chacha.specs.ChaCha.{ChaCha, key_of}
use Rattle.tk_ledger.specs.Retention.{Prunes}
use Rattle.tk_region.specs.RegionFields.{RegionFields}
use Rattle.tk_edge.specs.EdgeFields.{EdgeFields}
use Rattle.tk_edge.specs.Terms.{TermsFields}
use Rattle.tokend.specs.CommandLine.{chosen_settings}
use Rattle.tokend.specs.Loading.{Loads}
use Rattle.tokend.specs.Ranges.{terms_of}
use Rattle.tokend.specs.Status.{IsUnread}
use Rattle.tokend.specs.declared.fault.Fault.{Fault}
use Rattle.tokend.specs.declared.fault.Fault.TheVariants as fault
use Rattle.tokend.specs.declared.load.LoadFault.{LoadFault}
use Rattle.tokend.specs.declared.load.LoadFault.TheVariants.{Malformed, Refused, Memory, CannotRead}
use Rattle.tokend.specs.declared.options.Service.{Service}

-- the region of the service's number, settings and choices, without facts
abbrev pub first_region : Service → RegionFields
first_region service =
    record { number = service.region; settings = chosen_settings service; facts = empty_store }

-- an edge over which regions exchange facts, by the terms of a push, and that isn't sealed
abbrev pub edge_of : TermsFields → RegionFields → EdgeFields
edge_of terms region = record { region = region; terms = terms; sealed = false }

-- the edge of the service's region, without facts
abbrev pub first_edge : Service → EdgeFields
first_edge service = edge_of (terms_of service) (first_region service)

-- the generator at its first word: the seed is its key, and the region's number its stream
abbrev pub first_words : List ℕ → ℕ → ChaCha
first_words seed region = record { key = key_of seed; stream = region; word_pos = 0 }

-- a service starts with its first edge, and draws random words by a seed of 32 bytes
abbrev pub IsStart : Service → EdgeFields → ChaCha → Type 0
IsStart service edge words = (edge ≡ first_edge service)
    × ((seed : List ℕ) × (length seed ≡ 32) × (words ≡ first_words seed service.region))

-- the program's result of loading the log of this name
abbrev pub IsReportedAs : List ℕ → Result ℕ LoadFault → Result ℕ Fault → Type 0
IsReportedAs name (Ok dropped) reported = reported ≡ Ok dropped
IsReportedAs name (Err (Malformed offset)) reported = reported ≡ Err fault.BadLogFile
IsReportedAs name (Err (Refused offset)) reported = reported ≡ Err fault.BadLogFile
IsReportedAs name (Err Memory) reported = reported ≡ Err fault.Memory
IsReportedAs name (Err CannotRead) (Err f) = IsUnread name f
IsReportedAs name (Err CannotRead) (Ok dropped) = ⊥

-- the file can't be opened and the region is unchanged, or the log in the file is loaded; `known`
-- is the file's bytes, if they are known
abbrev pub LoadsFile : Option (List ℕ) → List ℕ → RegionFields → Result ℕ Fault → RegionFields
    → Type 0
LoadsFile known name old reported new = (IsReportedAs name (Err CannotRead) reported × (new ≡ old))
    ⊎ ((log : List ℕ) × (result : Result ℕ LoadFault) × IfSome known (λ bytes. log ≡ bytes)
    × Loads old log result new × IsReportedAs name result reported)

-- the old log of this name is loaded, if there is one; `kept` has the bytes of the file of a name,
-- if they are known
abbrev pub LoadsOld : {A : Type 0} → (List ℕ → Option (List ℕ)) → Option (String A)
    → RegionFields → Result ℕ Fault → RegionFields → Type 0
LoadsOld kept None old reported new = (reported ≡ Ok 0) × (new ≡ old)
LoadsOld kept (Some name) old reported new =
    LoadsFile (kept (string_bytes name)) (string_bytes name) old reported new

-- a log that was opened is empty, if its bytes are known
abbrev pub IsEmptyLog : Option (List ℕ) → Type 0
IsEmptyLog None = ⊤
IsEmptyLog (Some bytes) = bytes ≡ []

-- The region is pruned up to a moment, by which n facts went. Its number and settings are
-- unchanged.
pub record PrunesRegion (old : RegionFields) (moment n : ℕ) (new : RegionFields) : Type 0 where
  pub number : new.number ≡ old.number
  pub settings : new.settings ≡ old.settings
  pub facts : Prunes old.facts moment n new.facts

-- the region is pruned up to the moment, if there is one; the result is how many facts went; if
-- memory runs out, the region is unchanged
abbrev pub PrunesOld : Option ℕ → RegionFields → Result (Option ℕ) Fault → RegionFields → Type 0
PrunesOld None old pruned new = (pruned ≡ Ok None) × (new ≡ old)
PrunesOld (Some moment) old (Ok (Some n)) new = PrunesRegion old moment n new
PrunesOld (Some moment) old (Ok None) new = ⊥
PrunesOld (Some moment) old (Err f) new = (f ≡ fault.Memory) × (new ≡ old)
