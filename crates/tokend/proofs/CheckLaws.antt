-- Loading the sources of a check. Key results:
--   check_fault    a fault that ends the loading of all sources is one of a source
--   each_stops     the loading of sources ends at the first
--   each_goes      the loading of sources goes on behind the first
--   check_left     what a fault of a source leaves of the output
--   checked        all sources can be loaded
--   check_begun    what the fault of the output leaves of it
use Rattle.std.proofs.Common.{◌≡◌, ℕ, List, [], ◌∷◌, Option, Some, None, Result, Ok, Err, map, refl}
use Rattle.std.proofs.Common.{sym, ap, subst, inl, inr, codes, false, string_bytes}
use Rattle.std.specs.FinMap as sets
use Rattle.std.specs.Io.KnownBytes.{Appends, Keeps}
use Rattle.std.specs.Str.{bytes_eq}
use Rattle.clap.specs.Words.{Text}
use Rattle.tk_put.specs.Put.{AppendsFront}
use Rattle.tk_edge.specs.Told.{Change}
use Rattle.tk_store.specs.StoreFields.{held_facts}
use Rattle.tk_region.specs.RegionFields.{RegionFields}
use Rattle.tokend.specs.CheckRun.{BeginsCheck, Checks, ChecksFacts, IsRefusedSource, IsReported}
use Rattle.tokend.specs.CheckRun.{IsReportedAs, LoadsEach, LoadsNamed, LoadsSource, LoadsSources}
use Rattle.tokend.specs.CheckRun.{loaded_text}
use Rattle.tokend.specs.FactsRun.{IsSourceFault, TellsDropped, known_of, with_cut}
use Rattle.tokend.specs.Status.{LeavesBegun}
use Rattle.tokend.specs.declared.load.LoadFault.{LoadFault}
use Rattle.tokend.specs.declared.load.LoadFault.TheVariants as load
use Rattle.tokend.specs.declared.options.Check.{Check}
use Rattle.tokend.specs.declared.options.Sources.{Sources}
use Rattle.tokend.proofs.FactsLaws.{fault_in, is_bad, is_unread, later_fault, no_error}
use Rattle.tokend.specs.Telling.{Writing}
use Rattle.tokend.specs.declared.fault.Fault.{Fault}
use Rattle.tokend.specs.declared.fault.Fault.TheVariants.{BadLine, BadLogFile, BadSeedFile}
use Rattle.tokend.specs.declared.fault.Fault.TheVariants.{CannotListen, CannotOpen, CannotRead}
use Rattle.tokend.specs.declared.fault.Fault.TheVariants.{CannotReadFile, Facts, Memory, Output}
use Rattle.tokend.specs.declared.fault.Fault.TheVariants.{PruneAhead, ScriptTooLong, SharedFolder}
use Rattle.tokend.specs.declared.fault.Fault.TheVariants.{SocketFailed, SocketInUse, Arguments}

-- the fault for a source that was refused is one of a source
is_refused : (name : Text) (offset : ℕ) (fault : Fault) → IsRefusedSource name offset fault
    → IsSourceFault fault
is_refused name offset (Facts why) h = tt
is_refused name offset (Arguments error) h = absurd h
is_refused name offset CannotRead h = absurd h
is_refused name offset (CannotReadFile n) h = absurd h
is_refused name offset (CannotOpen n) h = absurd h
is_refused name offset CannotListen h = absurd h
is_refused name offset SharedFolder h = absurd h
is_refused name offset SocketInUse h = absurd h
is_refused name offset PruneAhead h = absurd h
is_refused name offset SocketFailed h = absurd h
is_refused name offset BadSeedFile h = absurd h
is_refused name offset BadLogFile h = absurd h
is_refused name offset ScriptTooLong h = absurd h
is_refused name offset (BadLine n) h = absurd h
is_refused name offset Memory h = absurd h
is_refused name offset Output h = absurd h

-- the fault reported for a source that wasn't loaded is one of a source
is_told : (name : Text) (why : LoadFault) (fault : Fault) → IsReportedAs name why fault
    → IsSourceFault fault
is_told name (load.Malformed offset) fault h = is_bad name offset fault h
is_told name (load.Refused offset) fault h = is_refused name offset fault h
is_told name load.CannotRead fault h = is_unread name fault h
is_told name load.Memory fault h = subst IsSourceFault (sym h) tt

-- a fault that ends the loading of a source is one of a source
source_fault : (name : Text) (known : Option (List ℕ)) (fault : Fault) (old new : RegionFields)
    → LoadsSource name known old (Err fault) new → IsSourceFault fault
source_fault name known fault old new (inr h) =
    subst IsSourceFault (sym (ap (fault_in fault) h.1)) (is_unread name h.0 h.2)
source_fault name known fault old new (inl h) = by h.1 h.4
  where
    by : (loaded : Result ℕ LoadFault) → IsReported name loaded (Err fault) → IsSourceFault fault
    by (Ok cut) e = absurd (no_error fault cut e)
    by (Err why) told = is_told name why fault told

-- a fault that ends the loading of sources in order is one of a source
each_fault : (names : List Text) (input : Option (List ℕ)) (fault : Fault) (old new : RegionFields)
    → LoadsEach names input old (Err fault) new → IsSourceFault fault
each_fault [] input fault old new h = absurd (no_error fault 0 h.0)
each_fault (name ∷ more) input fault old new (inl h) =
    subst IsSourceFault (sym (ap (fault_in fault) h.1)) (source_fault name _ h.0 old new h.2)
each_fault (name ∷ more) input fault old new (inr h) =
    each_fault more h.2 fault h.1 new
    (subst (λ (r : Result ℕ Fault). LoadsEach more h.2 h.1 r new) (later_fault h.0 h.3 fault h.7)
    h.6)

-- a fault that ends the loading of the named sources, or of the input, is one of a source
sources_fault : (s : Sources) (input : Option (List ℕ)) (fault : Fault) (old new : RegionFields)
    → LoadsSources s input old (Err fault) new → IsSourceFault fault
sources_fault s input fault old new h = by (map string_bytes s.names.items) h
  where
    by : (names : List Text) → LoadsNamed names input old (Err fault) new → IsSourceFault fault
    by [] h = source_fault _ input fault old new h
    by (name ∷ more) h = each_fault (name ∷ more) input fault old new h

-- a fault that ends the loading of all sources is one of a source
pub check_fault : (c : Check) (input : Option (List ℕ)) (fault : Fault) (region : RegionFields)
    → Checks c input (Err fault) region
    → IsSourceFault fault × ((region : RegionFields) × Checks c input (Err fault) region)
check_fault c input fault region ended =
    (sources_fault c.sources input fault _ region ended, (region, ended))

-- the loading of sources ends at the first
pub each_stops : (names : List Text) (name : Text) (more : List Text) (input : Option (List ℕ))
    (fault : Fault) (old new : RegionFields)
    → names ≡ name ∷ more
    → LoadsSource name (known_of name input) old (Err fault) new
    → LoadsEach names input old (Err fault) new
each_stops names name more input fault old new is h =
    subst (λ (l : List Text). LoadsEach l input old (Err fault) new) (sym is) (inl (fault, refl, h))

-- the loading of sources goes on behind the first
pub each_goes : (names : List Text) (name : Text) (more : List Text) (input left : Option (List ℕ))
    (cut : ℕ) (later result : Result ℕ Fault) (old mid new : RegionFields)
    → names ≡ name ∷ more → LoadsSource name (known_of name input) old (Ok cut) mid
    → (bytes_eq name (codes "-") ≡ false → left ≡ input)
    → LoadsEach more left mid later new → result ≡ with_cut cut later
    → LoadsEach names input old result new
each_goes names name more input left cut later result old mid new is first kept h same =
    subst (λ (l : List Text). LoadsEach l input old result new) (sym is)
    (inr (cut, mid, left, later, first, kept, h, same))

-- unchanged bytes are kept
keeps_same : (bytes : Option (List ℕ)) → Keeps bytes bytes
keeps_same None = tt
keeps_same (Some bytes) = refl

-- the fault of a source leaves all
pub check_left : (c : Check) (input : Option (List ℕ)) (fault : Fault) (old : Option (List ℕ))
    → IsSourceFault fault × ((region : RegionFields) × Checks c input (Err fault) region)
    → LeavesBegun (BeginsCheck c input fault old old) fault old old
check_left c input (Facts why) old h = (h.1, keeps_same old)
check_left c input (Arguments error) old h = absurd h.0
check_left c input CannotRead old h = absurd h.0
check_left c input (CannotReadFile n) old h = absurd h.0
check_left c input (CannotOpen n) old h = absurd h.0
check_left c input CannotListen old h = absurd h.0
check_left c input SharedFolder old h = absurd h.0
check_left c input SocketInUse old h = absurd h.0
check_left c input PruneAhead old h = absurd h.0
check_left c input SocketFailed old h = absurd h.0
check_left c input BadSeedFile old h = absurd h.0
check_left c input BadLogFile old h = absurd h.0
check_left c input ScriptTooLong old h = absurd h.0
check_left c input (BadLine n) old h = absurd h.0
check_left c input Memory old h = absurd h.0
check_left c input Output old h = absurd h.0

-- what is known of sources that can be loaded
abbrev pub IsLoaded : Check → Option (List ℕ) → ℕ → ℕ → Type 0
IsLoaded c input facts cut = (region : RegionFields) × Checks c input (Ok cut) region
    × (facts ≡ sets.len (held_facts region.facts))

-- all sources can be loaded
pub checked : (c : Check) (input : Option (List ℕ)) (output : Change) (faults : Writing)
    (facts cut : ℕ)
    → IsLoaded c input facts cut
    → Appends output.before output.after (loaded_text facts) → TellsDropped cut faults
    → ChecksFacts c input output faults
checked c input output faults facts cut h printed told = record {
  cut = cut;
  region = h.0;
  checks = h.1;
  printed = subst (λ (n : ℕ). Appends output.before output.after (loaded_text n)) h.2 printed;
  told = told;
}

-- what the fault of the output leaves of it
pub check_begun : (c : Check) (input old new : Option (List ℕ)) (facts cut : ℕ)
    → IsLoaded c input facts cut → AppendsFront old new (loaded_text facts)
    → BeginsCheck c input Output old new
check_begun c input old new facts cut h begun =
    (cut, h.0, h.1, subst (λ (n : ℕ). AppendsFront old new (loaded_text n)) h.2 begun)
