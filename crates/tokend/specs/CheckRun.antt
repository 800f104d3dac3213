-- What checking whether sources can be loaded does (own).
--   IsRefusedSource   the fault of a source with a bundle that is refused
--   IsReportedAs      the program's fault for that of loading a source
--   LoadsSource       a source is loaded, or isn't to its end
--   LoadsEach         sources are loaded one after the other
--   LoadsSources      the sources that the arguments name are loaded
--   Checks            all sources are loaded, into a region without facts
--   ChecksFacts       the number of facts was printed, and that of bytes that are dropped
--   BeginsCheck       what a fault leaves of the output
use Rattle.std.specs.Prelude.{◌≡◌, ◌⊎◌, ⊤, ℕ, false, List, [], ◌∷◌, ◌++◌, map, codes}
use Rattle.std.specs.Prelude.{decimal, string_bytes, Option, Result, Ok, Err, IfSome}
use Rattle.std.specs.FinMap as facts_of
use Rattle.std.specs.Io.KnownBytes.{Appends, Keeps}
use Rattle.std.specs.Str.{bytes_eq}
use Rattle.clap.specs.Words.{Text}
use Rattle.tk_put.specs.Put.{AppendsFront}
use Rattle.tk_edge.specs.Told.{Change}
use Rattle.tk_store.specs.StoreFields.{empty_store, held_facts}
use Rattle.tk_region.specs.RegionFields.{RegionFields}
use Rattle.tk_region.specs.SettingsFields.{SettingsFields, max_access, max_cap}
use Rattle.tk_region.specs.SettingsFields.{max_code, max_family, max_refresh}
use Rattle.tk_message.specs.Choices.{profile_choices}
use Rattle.tokend.specs.FactsRun.{IsBadSource, IsUnreadSource, TellsDropped, known_of, with_cut}
use Rattle.tokend.specs.Loading.{Loads}
use Rattle.tokend.specs.Telling.{Writing}
use Rattle.tokend.specs.declared.fault.Fault.{Fault}
use Rattle.tokend.specs.declared.fault.Fault.TheVariants.{Facts, Output}
use Rattle.tokend.specs.declared.fault.FactsFault.TheVariants as facts
use Rattle.tokend.specs.declared.load.LoadFault.{LoadFault}
use Rattle.tokend.specs.declared.load.LoadFault.TheVariants as load
use Rattle.tokend.specs.declared.options.Check.{Check}
use Rattle.tokend.specs.declared.options.Sources.{Sources}

-- the fault of a source with a refused bundle at this offset; there may be no memory for the name
abbrev pub IsRefusedSource : Text → ℕ → Fault → Type 0
IsRefusedSource name offset (Facts (facts.Refused text at)) =
    (string_bytes text ≡ name) × (at ≡ offset)
IsRefusedSource name offset (Facts facts.Memory) = ⊤
IsRefusedSource name offset fault = ⊥

-- the program's fault for that of loading a source
abbrev pub IsReportedAs : Text → LoadFault → Fault → Type 0
IsReportedAs name (load.Malformed offset) fault = IsBadSource name offset fault
IsReportedAs name (load.Refused offset) fault = IsRefusedSource name offset fault
IsReportedAs name load.CannotRead fault = IsUnreadSource name fault
IsReportedAs name load.Memory fault = fault ≡ Facts facts.Memory

-- the program's result of loading a source
abbrev pub IsReported : Text → Result ℕ LoadFault → Result ℕ Fault → Type 0
IsReported name (Ok dropped) result = result ≡ Ok dropped
IsReported name (Err why) (Ok n) = ⊥
IsReported name (Err why) (Err fault) = IsReportedAs name why fault

-- a source with these bytes, if they are known, is loaded as an old log is, or can't be opened
abbrev pub LoadsSource : Text → Option (List ℕ) → RegionFields → Result ℕ Fault → RegionFields
    → Type 0
LoadsSource name known old result new =
    ((log : List ℕ) × (loaded : Result ℕ LoadFault) × IfSome known (λ bytes. log ≡ bytes)
    × Loads old log loaded new × IsReported name loaded result)
    ⊎ ((fault : Fault) × (result ≡ Err fault) × IsUnreadSource name fault × (new ≡ old))

-- sources are loaded one after the other, up to the first that isn't loaded to its end; only
-- loading the standard input changes what is left of it
abbrev pub LoadsEach : List Text → Option (List ℕ) → RegionFields → Result ℕ Fault → RegionFields
    → Type 0
LoadsEach [] input old result new = (result ≡ Ok 0) × (new ≡ old)
LoadsEach (name ∷ more) input old result new =
    ((fault : Fault) × (result ≡ Err fault)
    × LoadsSource name (known_of name input) old (Err fault) new)
    ⊎ ((cut : ℕ) × (mid : RegionFields) × (left : Option (List ℕ)) × (later : Result ℕ Fault)
    × LoadsSource name (known_of name input) old (Ok cut) mid
    × (bytes_eq name (codes "-") ≡ false → left ≡ input)
    × LoadsEach more left mid later new × (result ≡ with_cut cut later))

-- the sources of these names are loaded, or the standard input if there is no name
abbrev pub LoadsNamed : List Text → Option (List ℕ) → RegionFields → Result ℕ Fault → RegionFields
    → Type 0
LoadsNamed [] input old result new = LoadsSource (codes "-") input old result new
LoadsNamed (name ∷ more) input old result new = LoadsEach (name ∷ more) input old result new

-- the sources that the arguments name are loaded
abbrev pub LoadsSources : Sources → Option (List ℕ) → RegionFields → Result ℕ Fault → RegionFields
    → Type 0
LoadsSources s input old result new =
    LoadsNamed (map string_bytes s.names.items) input old result new

-- the greatest settings; what can be loaded doesn't depend on them
abbrev pub max_settings : SettingsFields
max_settings =
    record {
      code = max_code;
      access = max_access;
      refresh = max_refresh;
      family = max_family;
      cap = max_cap;
      choices = profile_choices;
    }

-- all sources are loaded, into a region of the check's number without facts
abbrev pub Checks : Check → Option (List ℕ) → Result ℕ Fault → RegionFields → Type 0
Checks c input result new =
    LoadsSources c.sources input
    (record { number = c.region; settings = max_settings; facts = empty_store }) result new

-- the line of the number of facts
abbrev pub loaded_text : ℕ → List ℕ
loaded_text count = codes "loaded " ++ (decimal count ++ codes " facts\n")

-- the line of the number of facts that a region holds
abbrev pub count_text : RegionFields → List ℕ
count_text region = loaded_text (facts_of.len (held_facts region.facts))

-- all sources can be loaded: the number of facts was printed, and that of bytes that are dropped
-- at the ends is written
pub record ChecksFacts (c : Check) (input : Option (List ℕ)) (output : Change)
    (faults : Writing) : Type 0 where
  pub cut : ℕ
  pub region : RegionFields
  pub checks : Checks c input (Ok cut) region
  pub printed : Appends output.before output.after (count_text region)
  pub told : TellsDropped cut faults

-- what a fault leaves of the output: a source's fault leaves all, the output's a beginning of the
-- line
abbrev pub BeginsCheck : Check → Option (List ℕ) → Fault → Option (List ℕ) → Option (List ℕ)
    → Type 0
BeginsCheck c input (Facts fault) old new =
    ((region : RegionFields) × Checks c input (Err (Facts fault)) region) × Keeps old new
BeginsCheck c input Output old new =
    (cut : ℕ) × (region : RegionFields) × Checks c input (Ok cut) region
    × AppendsFront old new (count_text region)
BeginsCheck c input fault old new = ⊥
