-- Printing the facts of sources. Key results:
--   facts_fault    a fault that ends the printing is one of printing
--   all_printed    all sources are printed
--   fault_left     what a fault leaves of the output
--   rows_named     the names of sources that clap has, as rows
use Rattle.std.proofs.Common.{◌≡◌, ℕ, List, [], ◌∷◌, Bor, Option, Some, None, Result, Ok, Err, map}
use Rattle.std.proofs.Common.{option_map, refl, sym, ap, subst, inl, inr, ◌∙◌, string_bytes}
use Rattle.std.specs.Prelude.{unwrap_or}
use Rattle.std.specs.Io.KnownBytes.{Keeps}
use Rattle.tk_edge.specs.Told.{Change}
use Rattle.clap.specs.Words.{Text, all_of, matched_of, raw_values, rows_of}
use Rattle.clap.specs.declared.parser.matches.Found.{Found}
use Rattle.clap.proofs.WalkLemmas.{raw_values-rows}
use Rattle.tk_listing.specs.declared.print.PrintFault.{PrintFault}
use Rattle.tk_listing.specs.declared.print.PrintFault.TheVariants as print
use Rattle.tokend.specs.FactsRun.{BeginsFacts, IsBadSource, IsFactsFault, IsSourceFault, IsReported}
use Rattle.tokend.specs.FactsRun.{IsReportedAs, IsUnreadSource, PrintsEach, PrintsFacts}
use Rattle.tokend.specs.FactsRun.{PrintsNamed, PrintsSource, PrintsSources, TellsDropped, with_cut}
use Rattle.tokend.specs.Status.{LeavesBegun}
use Rattle.tokend.specs.declared.options.Sources.{Sources}
use Rattle.tokend.specs.Telling.{Writing}
use Rattle.tokend.specs.declared.fault.Fault.{Fault}
use Rattle.tokend.specs.declared.fault.Fault.TheVariants.{BadLine, BadLogFile, BadSeedFile}
use Rattle.tokend.specs.declared.fault.Fault.TheVariants.{CannotListen, CannotOpen, CannotRead}
use Rattle.tokend.specs.declared.fault.Fault.TheVariants.{CannotReadFile, Facts, Memory, Output}
use Rattle.tokend.specs.declared.fault.Fault.TheVariants.{PruneAhead, ScriptTooLong, SharedFolder}
use Rattle.tokend.specs.declared.fault.Fault.TheVariants.{SocketFailed, SocketInUse, Arguments}

-- a fault of bad bytes in a source is one of a source
pub is_bad : (name : Text) (offset : ℕ) (fault : Fault) → IsBadSource name offset fault
    → IsSourceFault fault
is_bad name offset (Facts why) h = tt
is_bad name offset (Arguments error) h = absurd h
is_bad name offset CannotRead h = absurd h
is_bad name offset (CannotReadFile n) h = absurd h
is_bad name offset (CannotOpen n) h = absurd h
is_bad name offset CannotListen h = absurd h
is_bad name offset SharedFolder h = absurd h
is_bad name offset SocketInUse h = absurd h
is_bad name offset PruneAhead h = absurd h
is_bad name offset SocketFailed h = absurd h
is_bad name offset BadSeedFile h = absurd h
is_bad name offset BadLogFile h = absurd h
is_bad name offset ScriptTooLong h = absurd h
is_bad name offset (BadLine n) h = absurd h
is_bad name offset Memory h = absurd h
is_bad name offset Output h = absurd h

-- a fault of a source that can't be read is one of a source
pub is_unread : (name : Text) (fault : Fault) → IsUnreadSource name fault → IsSourceFault fault
is_unread name (Facts why) h = tt
is_unread name (Arguments error) h = absurd h
is_unread name CannotRead h = absurd h
is_unread name (CannotReadFile n) h = absurd h
is_unread name (CannotOpen n) h = absurd h
is_unread name CannotListen h = absurd h
is_unread name SharedFolder h = absurd h
is_unread name SocketInUse h = absurd h
is_unread name PruneAhead h = absurd h
is_unread name SocketFailed h = absurd h
is_unread name BadSeedFile h = absurd h
is_unread name BadLogFile h = absurd h
is_unread name ScriptTooLong h = absurd h
is_unread name (BadLine n) h = absurd h
is_unread name Memory h = absurd h
is_unread name Output h = absurd h

-- a fault of a source is one of printing
pub of_source : (fault : Fault) → IsSourceFault fault → IsFactsFault fault
of_source (Facts why) h = tt
of_source (Arguments error) h = absurd h
of_source CannotRead h = absurd h
of_source (CannotReadFile n) h = absurd h
of_source (CannotOpen n) h = absurd h
of_source CannotListen h = absurd h
of_source SharedFolder h = absurd h
of_source SocketInUse h = absurd h
of_source PruneAhead h = absurd h
of_source SocketFailed h = absurd h
of_source BadSeedFile h = absurd h
of_source BadLogFile h = absurd h
of_source ScriptTooLong h = absurd h
of_source (BadLine n) h = absurd h
of_source Memory h = absurd h
of_source Output h = absurd h

-- the fault reported for a source that wasn't printed is one of printing
is_told : (name : Text) (why : PrintFault) (fault : Fault) → IsReportedAs name why fault
    → IsFactsFault fault
is_told name (print.Malformed offset) fault h = of_source fault (is_bad name offset fault h)
is_told name print.CannotRead fault h = of_source fault (is_unread name fault h)
is_told name print.Memory fault h = subst IsFactsFault (sym h) tt
is_told name print.Output fault h = subst IsFactsFault (sym h) tt

-- the fault of a result, or the other fault if the result has none
abbrev pub fault_in : Fault → Result ℕ Fault → Fault
fault_in other (Ok n) = other
fault_in other (Err fault) = fault

-- a fault that ends the printing of a source is one of printing
source_fault : (name : Text) (known : Option (List ℕ)) (fault : Fault) (old new : Option (List ℕ))
    → PrintsSource name known (Err fault) old new → IsFactsFault fault
source_fault name known fault old new (inr h) =
    subst IsFactsFault (sym (ap (fault_in fault) h.1)) (of_source h.0 (is_unread name h.0 h.2))
source_fault name known fault old new (inl h) = by h.0 h.2
  where
    by : (printed : Result ℕ PrintFault) → IsReported name printed (Err fault) → IsFactsFault fault
    by (Ok cut) e = absurd (cc)
    by (Err why) told = is_told name why fault told

-- a fault of the sources after the first is theirs
pub later_fault : (cut : ℕ) (later : Result ℕ Fault) (fault : Fault)
    → Err fault ≡ with_cut cut later → later ≡ Err fault
later_fault cut (Ok n) fault e = absurd (cc)
later_fault cut (Err why) fault e = sym e

-- a fault is no success
pub no_error : (fault : Fault) (n : ℕ) → Err fault ≡ Ok n → ⊥
no_error fault n e = absurd (cc)

-- a fault that ends the printing of sources in order is one of printing
each_fault : (names : List Text) (input : Option (List ℕ)) (fault : Fault)
    (old new : Option (List ℕ))
    → PrintsEach names input (Err fault) old new → IsFactsFault fault
each_fault [] input fault old new h = absurd (no_error fault 0 h.0)
each_fault (name ∷ more) input fault old new (inl h) =
    subst IsFactsFault (sym (ap (fault_in fault) h.1)) (source_fault name _ h.0 old new h.2)
each_fault (name ∷ more) input fault old new (inr h) =
    each_fault more h.2 fault h.1 new
    (subst (λ (r : Result ℕ Fault). PrintsEach more h.2 r h.1 new) (later_fault h.0 h.3 fault h.7)
    h.6)

-- printing sources ends only with the faults of `tokend facts`
pub facts_fault : (s : Sources) (input : Option (List ℕ)) (fault : Fault)
    (old new : Option (List ℕ))
    → PrintsSources s input (Err fault) old new → IsFactsFault fault
facts_fault s input fault old new h = by (map string_bytes s.names.items) h
  where
    by : (names : List Text) → PrintsNamed names input (Err fault) old new → IsFactsFault fault
    by [] h = source_fault _ input fault old new h
    by (name ∷ more) h = each_fault (name ∷ more) input fault old new h

-- facts are printed once all sources are, and the dropped bytes reported
pub all_printed : (s : Sources) (input : Option (List ℕ)) (r : Result ℕ Fault) (cut : ℕ)
    (mid : Option (List ℕ)) (output : Change) (faults : Writing)
    → r ≡ Ok cut
    → PrintsSources s input r output.before mid → Keeps mid output.after → TellsDropped cut faults
    → PrintsFacts s input output faults
all_printed s input r cut mid output faults is h kept told = record {
  cut = cut;
  mid = mid;
  prints = subst (λ (x : Result ℕ Fault). PrintsSources s input x output.before mid) is h;
  kept = kept;
  told = told;
}

-- if a source has a fault, the output has the lines before it
pub fault_left : (s : Sources) (input : Option (List ℕ)) (r : Result ℕ Fault) (fault : Fault)
    (old mid new : Option (List ℕ))
    → r ≡ Err fault
    → PrintsSources s input r old mid → Keeps mid new
    → LeavesBegun (BeginsFacts s input fault old new) fault old new
fault_left s input r fault old mid new is h kept =
    of fault (facts_fault s input fault old mid ended) ended
  where
    ended : PrintsSources s input (Err fault) old mid
    ended = subst (λ (x : Result ℕ Fault). PrintsSources s input x old mid) is h

    of : (fault : Fault) → IsFactsFault fault → PrintsSources s input (Err fault) old mid
        → LeavesBegun (BeginsFacts s input fault old new) fault old new
    of (Facts why) f h = (Err (Facts why), mid, h, kept, refl)
    of Output f h = (Err Output, mid, h, kept, tt)
    of (Arguments error) f h = absurd f
    of CannotRead f h = absurd f
    of (CannotReadFile n) f h = absurd f
    of (CannotOpen n) f h = absurd f
    of CannotListen f h = absurd f
    of SharedFolder f h = absurd f
    of SocketInUse f h = absurd f
    of PruneAhead f h = absurd f
    of SocketFailed f h = absurd f
    of BadSeedFile f h = absurd f
    of BadLogFile f h = absurd f
    of ScriptTooLong f h = absurd f
    of (BadLine n) f h = absurd f
    of Memory f h = absurd f

-- if a source has a fault, that is one of `tokend facts`
pub fault_of_sources : (s : Sources) (input : Option (List ℕ)) (r : Result ℕ Fault) (fault : Fault)
    (old mid : Option (List ℕ))
    → r ≡ Err fault
    → PrintsSources s input r old mid → IsFactsFault fault
fault_of_sources s input r fault old mid is h =
    facts_fault s input fault old mid
    (subst (λ (x : Result ℕ Fault). PrintsSources s input x old mid) is h)

-- the texts that clap has
abbrev pub texts_in : Bor (List (Bor Text)) → List Text
texts_in s = map (λ (v : Bor Text). v.now) s.now

-- the values of an argument are those of its rows, or there are none
pub rows_named : (f : Found) (id : Text) (r : Option (Bor (List (Bor Text))))
    → option_map texts_in r ≡ option_map raw_values (matched_of f id)
    → unwrap_or (option_map texts_in r) [] ≡ unwrap_or (all_of id (rows_of f)) []
rows_named f id r e = ap (λ (o : Option (List Text)). unwrap_or o []) (e ∙ raw_values-rows f id)

-- the values of an argument that was sent are those of its rows
pub some_named : (f : Found) (id : Text) (r : Option (Bor (List (Bor Text))))
    (s : Bor (List (Bor Text)))
    → r ≡ Some s
    → option_map texts_in r ≡ option_map raw_values (matched_of f id)
    → texts_in s ≡ unwrap_or (all_of id (rows_of f)) []
some_named f id r s is e =
    ap (λ (o : Option (Bor (List (Bor Text)))). unwrap_or (option_map texts_in o) []) (sym is)
    ∙ rows_named f id r e

-- an argument that was not sent has no values
pub none_named : (f : Found) (id : Text) (r : Option (Bor (List (Bor Text)))) → r ≡ None
    → option_map texts_in r ≡ option_map raw_values (matched_of f id)
    → [] ≡ unwrap_or (all_of id (rows_of f)) []
none_named f id r is e =
    ap (λ (o : Option (Bor (List (Bor Text)))). unwrap_or (option_map texts_in o) []) (sym is)
    ∙ rows_named f id r e
