-- A log that gets the bundles taken in (own): it has all that its region made and took in since its
-- start, and it is loaded whole behind the old log.
--   IsHeldBy      each fact of one region is held by another, or skipped there
--   AreLogged     bytes are these bundles, and perhaps the beginning of one more
--   AreAmong      each bundle of one list is in another
--   HasStarted    a region has taken in an old log, and may have been pruned
--   HasLogged     it has served connections since, and what its log has then
--   KeepsSince    a region knows what another made and took in since its start
--   LogKeepsAll   a region that has loaded the bundles of both logs, in any order, knows that
--   LogLoads      the log is loaded behind the old log, and nothing in it is refused
--   ServiceLogs   a service with a log has written such a log
use Rattle.std.specs.Prelude.{◌≡◌, ◌≢◌, ◌⊎◌, ⊤, ℕ, ◌≤◌, true, false, max, List, [], ◌∷◌, ◌++◌}
use Rattle.std.specs.Prelude.{Bool, Option, None, Some, IfSome, IsSome, is_some, Result, Ok, Err}
use Rattle.std.specs.Prelude.{String}
use Rattle.std.specs.Prelude.{string_bytes}
use Rattle.std.specs.FinMap as map
use Rattle.rand_chacha.specs.ChaCha.{ChaCha}
use Rattle.tk_handle.specs.declared.dot.Dot.{Dot}
use Rattle.tk_fact.specs.declared.body.Body.{Body}
use Rattle.tk_store.specs.SlotOrder.{SlotBelow}
use Rattle.tk_store.specs.Slots.{Held, Skipped}
use Rattle.tk_store.specs.StoreFields.{empty_store, held_facts}
use Rattle.tk_bundle.specs.BundleFields.{BundleFields}
use Rattle.tk_bundle.specs.Front.{IsCut}
use Rattle.tk_region.specs.RegionFields.{RegionFields}
use Rattle.tk_edge.specs.Terms.{TermsFields}
use Rattle.tk_edge.specs.declared.edge.Served.{Served}
use Rattle.tk_edge.specs.declared.tell.Fault.{Fault}
use Rattle.tk_edge.specs.declared.tell.Fault.TheVariants as fault
use Rattle.tokend.specs.Loading.{AreBundles, Loads, TakesEach, log_bytes}
use Rattle.tk_edge.specs.Told.{Change}
use Rattle.tokend.specs.ServiceRun.{IsServiceRun}
use Rattle.tokend.specs.Starting.{PrunesOld, edge_of}
use Rattle.tokend.specs.Telling.{Writer, Writing}
use Rattle.tokend.specs.Turns.{AreTurns, Endings, KeepTerms, Running, all_ends}
use Rattle.tokend.specs.declared.load.LoadFault.{LoadFault}
use Rattle.tokend.specs.declared.load.LoadFault.TheVariants as load
use Rattle.tokend.specs.declared.options.Service.{Service}

-- each fact of the first region is held by the second, or its dot is skipped there
abbrev pub IsHeldBy : RegionFields → RegionFields → Type 0
IsHeldBy a b =
    (d : Dot) (body : Body) → map.get (held_facts a.facts) d ≡ Some body
    → SlotBelow (Some (Held body)) (map.get b.facts.slots d)

-- the bytes are nothing, or the beginning of a bundle that was cut
abbrev pub IsTorn : List ℕ → Type 0
IsTorn bytes = (bytes ≡ []) ⊎ IsCut bytes

-- the bytes are these bundles, one behind the other, and perhaps the beginning of one more
pub record AreLogged (bytes : List ℕ) (bundles : List BundleFields) : Type 0 where
  pub fit : AreBundles bundles
  pub rest : List ℕ
  pub parts : bytes ≡ log_bytes bundles ++ rest
  pub torn : IsTorn rest

-- the bundle is in the list
abbrev pub IsIn : BundleFields → List BundleFields → Type 0
IsIn b [] = ⊥
IsIn b (x ∷ xs) = (x ≡ b) ⊎ IsIn b xs

-- each bundle of the first list is in the second
abbrev pub AreAmong : List BundleFields → List BundleFields → Type 0
AreAmong [] all = Unit {0}
AreAmong (b ∷ more) all = IsIn b all × AreAmong more all

-- a region without facts took in the bundles of an old log, and was pruned if that was requested
pub record HasStarted (olds : List BundleFields) (start : RegionFields) : Type 0 where
  pub first : RegionFields
  pub empty : first.facts ≡ empty_store
  pub full : RegionFields
  pub fit : AreBundles olds
  pub loaded : TakesEach first olds full
  pub moment : Option ℕ
  pub count : Option ℕ
  pub pruned : PrunesOld moment full (Ok count) start

-- an edge that isn't sealed with a log of these bytes
abbrev pub logging : TermsFields → RegionFields → List ℕ → Writer → Bool → Running
logging terms region log faults prunes = record {
  edge = edge_of terms region;
  log = Some log;
  faults = faults;
  prunes = prunes;
}

-- A region that has started so has served connections over an edge whose log gets the bundles taken
-- in. The log, which was empty, has these bytes. The region may have been pruned between turns, and
-- the text of the metrics made anew.
pub record HasLogged (olds : List BundleFields) (region : RegionFields) (log : List ℕ) : Type 0
  where
    pub start : RegionFields
    pub started : HasStarted olds start
    pub terms : TermsFields
    pub shown : TermsFields
    pub same : KeepTerms terms shown
    pub words : ChaCha
    pub turns : List Endings
    pub faults : Writer
    pub told : Writer
    pub prunes : Bool
    pub served : AreTurns words true (logging terms start [] faults prunes) turns
        (logging shown region log told prunes)

-- a region that prunes itself has skipped a dot, and another knows the dot
abbrev pub IsPrunedBefore : Bool → RegionFields → Dot → Type 0
IsPrunedBefore prunes loaded d = (prunes ≡ true) × (map.get loaded.facts.slots d ≢ None)

-- What a region held, another holds or has skipped. What it skipped since its start, the other has
-- skipped; if the region prunes itself, the other knows the dot, and may hold the fact. Its horizon
-- is that of its start, or isn't later than the other's, unless the region prunes itself.
pub record KeepsSince (prunes : Bool) (start region loaded : RegionFields) : Type 0 where
  pub held : IsHeldBy region loaded
  pub marks : (d : Dot) → map.get region.facts.slots d ≡ Some Skipped
      → (map.get start.facts.slots d ≡ Some Skipped)
      ⊎ (map.get loaded.facts.slots d ≡ Some Skipped) ⊎ IsPrunedBefore prunes loaded d
  pub horizon : prunes ≡ false
      → region.facts.horizon ≤ max start.facts.horizon loaded.facts.horizon

-- a region that has loaded the bundles of an old log and of the log that was written behind it, in
-- any order, whatever else was among them and if the end is torn, knows what the writer knew
abbrev pub LogKeepsAll : Type 0
LogKeepsAll =
    (olds : List BundleFields) (region : RegionFields) (log : List ℕ)
    → (h : HasLogged olds region log)
    → (news : List BundleFields) → AreLogged log news
    → (bytes : List ℕ) (all : List BundleFields) → AreLogged bytes all
    → AreAmong olds all → AreAmong news all
    → (new loaded : RegionFields) (dropped : ℕ) → Loads new bytes (Ok dropped) loaded
    → KeepsSince h.prunes h.start region loaded

-- the connection didn't run out of memory
abbrev pub IsCalm : Result Served Fault → Type 0
IsCalm (Err fault.Memory) = ⊥
IsCalm other = ⊤

-- no connection ran out of memory
abbrev pub AreCalm : Endings → Type 0
AreCalm [] = Unit {0}
AreCalm (end ∷ ends) = IsCalm end.end × AreCalm ends

-- no fact that the region knows is under this number
abbrev pub IsFresh : ℕ → RegionFields → Type 0
IsFresh number region =
    (d : Dot) → map.get region.facts.slots d ≢ None → d.region ≢ number

-- the log was loaded whole, or memory or the device failed: nothing in it was refused
abbrev pub IsNotRefused : Result ℕ LoadFault → Type 0
IsNotRefused (Ok dropped) = ⊤
IsNotRefused (Err load.Memory) = ⊤
IsNotRefused (Err load.CannotRead) = ⊤
IsNotRefused (Err (load.Malformed at)) = ⊥
IsNotRefused (Err (load.Refused at)) = ⊥

-- a region without facts, of a number that is fresh, loads the old log and behind it the log of a
-- service that never ran out of memory, even if its end is torn: nothing is refused
abbrev pub LogLoads : Type 0
LogLoads =
    (olds : List BundleFields) (region : RegionFields) (log : List ℕ)
    → (h : HasLogged olds region log) → AreCalm (all_ends h.turns)
    → (news : List BundleFields) → AreLogged log news
    → (bytes : List ℕ) → AreLogged bytes (olds ++ news)
    → (new loaded : RegionFields) → new.facts ≡ empty_store → IsFresh new.number region
    → (result : Result ℕ LoadFault) → Loads new bytes result loaded → IsNotRefused result

-- the bytes of each log are known
abbrev pub KnowsLogs : {L : Type 0} → (L → Option (List ℕ)) → Type 0
KnowsLogs {L = L} holds = (log : L) → (bytes : List ℕ) × (holds log ≡ Some bytes)

-- the bundles are those of the old log of this name, if its bytes are known, or there is no old log
abbrev pub AreOld : {A : Type 0} → (List ℕ → Option (List ℕ)) → Option (String A)
    → List BundleFields → Type 0
AreOld kept None olds = olds ≡ []
AreOld kept (Some name) olds =
    IfSome (kept (string_bytes name)) (λ bytes. AreLogged bytes olds)

-- the log that was opened by this name has these bytes now
abbrev pub IsLog : {A L : Type 0} → (L → Option (List ℕ)) → (List ℕ → L → Type 0)
    → Option (String A) → List ℕ → Type 0
IsLog holds opens None bytes = ⊥
IsLog {L = L} holds opens (Some name) bytes =
    (opened : L) × (closed : L) × opens (string_bytes name) opened
    × (holds opened ≡ Some []) × (holds closed ≡ Some bytes)

-- A service that has run has written a log: the bundles of its old log, the bytes of the log that
-- it opened, and what that log has logged of the connections, with the writer of lines about
-- faults.
pub record HasWritten {L : Type 0} (kept : List ℕ → Option (List ℕ))
    (holds : L → Option (List ℕ)) (opens : List ℕ → L → Type 0) (service : Service)
    (start end : RegionFields) (faults : Writing) : Type 0 where
  pub olds : List BundleFields
  pub bytes : List ℕ
  pub old : AreOld kept service.files.load olds
  pub log : IsLog holds opens service.files.log bytes
  pub logged : HasLogged olds end bytes
  pub begun : logged.start ≡ start
  pub told : (logged.faults ≡ faults.before) × (logged.told ≡ faults.after)
  pub prunes : logged.prunes ≡ is_some service.limits.prune_margin

-- A service that has run with a log, which gets what is taken in, has written such a log, if its
-- edge isn't sealed at the end and the bytes of logs are known. `kept`, `holds` and `opens` are
-- those of a service's run.
abbrev pub ServiceLogs : {L : Type 0} → (List ℕ → Option (List ℕ)) → (L → Option (List ℕ))
    → (List ℕ → L → Type 0) → Type 0
ServiceLogs kept holds opens =
    (service : Service) (output : Change) (faults : Writing)
    → (ran : IsServiceRun kept holds opens service output faults)
    → service.files.log_taken ≡ true → IsSome service.files.log → KnowsLogs holds
    → ran.run.opened.end.sealed ≡ false
    → HasWritten kept holds opens service ran.run.opened.region ran.run.opened.end.region faults
