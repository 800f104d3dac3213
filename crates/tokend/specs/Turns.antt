-- What the turns of a service do to its edge, its log and the lines about faults (own).
--   past_each      the generator after the words of requests
--   all_counted    what a server has counted, with requests that ended so
--   AreDecisions   requests are decided, one after the other
--   AreReported    the lines about their faults
--   IsTurn         the requests of a turn are decided, and their records are written at once
--   IsPause        what may happen between two turns
--   KeepTerms      what turns leave of the terms of an edge
--   AreTurns       turns, one after the other
--   connections_in   how many connections ended
--   ReachEach      each request reached no more than its socket lets it
--   AreRepeats     what was repeated had been granted lately
--   so_many        how many connections are served
--   ServesAll      as many connections as requested were served
--   ServesLogged   as many connections as requested were served, with the log of a name
--   Goes           what a server does, with its log and the lines about faults
use Rattle.std.specs.Prelude.{
  ◌≡◌,
  ◌≢◌,
  ◌⊎◌,
  ⊤,
  ℕ,
  ◌+◌,
  ◌-◌,
  ◌^◌,
  true,
  Bool,
  List,
  [],
  ◌∷◌,
  ◌++◌,
  length,
  Option,
  Some,
  None,
  is_some,
  String,
  string_bytes,
  Result,
  Ok,
  Err,
  false,
  nat_lt,
}
use Rattle.std.specs.Option.{unwrap_or}
use Rattle.std.specs.Io.KnownBytes.{Appends}
use Rattle.rand_chacha.specs.ChaCha.{ChaCha}
use Rattle.tk_handle.specs.declared.dot.Dot.{Dot}
use Rattle.tk_ledger.specs.declared.slices.Slice.{Slice}
use Rattle.tk_put.specs.Put.{AppendsFront}
use Rattle.tk_edge.specs.EdgeFields.{EdgeFields}
use Rattle.tk_edge.specs.Terms.{TermsFields}
use Rattle.tk_edge.specs.Told.{Change}
use Rattle.tk_edge.specs.declared.edge.Served.{Served}
use Rattle.tk_edge.specs.declared.reach.PathSet.{PathSet}
use Rattle.tk_edge.specs.declared.reach.PathSet.TheVariants.{Admin, All, Clients}
use Rattle.tk_edge.specs.declared.tell.Fault.{Fault}
use Rattle.tk_edge.specs.declared.tell.Fault.TheVariants.{Log, Write}
use Rattle.tokend.specs.Counting.{with_end}
use Rattle.tokend.specs.Decisions.{Ending, IsDecision, ended_if}
use Rattle.tokend.specs.Draw.{six, past_six}
use Rattle.tokend.specs.Pruning.{SlicesRegion}
use Rattle.tokend.specs.Repeats.{IsIn, MayRepeat, RepeatsFields, with_granted}
use Rattle.tokend.specs.Serving.{connection_fault}
use Rattle.tokend.specs.Starting.{IsEmptyLog}
use Rattle.tokend.specs.Telling.{Writer, Writes, Writing}
use Rattle.tokend.specs.declared.metrics.Counts.{Counts}
use Rattle.tokend.specs.declared.repeats.Refreshed.{Refreshed}
use Rattle.tokend.specs.declared.server.Server.{Server}

-- how the requests of a turn ended, in the order in which they were decided
abbrev pub Endings : Type 0
Endings = List Ending

-- how many connections ended
abbrev pub connections_in : Endings → ℕ
connections_in [] = 0
connections_in (ending ∷ endings) = ended_if ending.stays + connections_in endings

-- each connection ended behind its first request, unless connections are kept
abbrev pub ClosesEach : Bool → Endings → Type 0
ClosesEach keeps endings = keeps ≡ false → connections_in endings ≡ length endings

-- a request reaches all paths, or those of clients alone if operators have a socket of their own
abbrev pub MayReach : Bool → PathSet → Type 0
MayReach has_inner All = ⊤
MayReach has_inner Clients = has_inner ≡ true
MayReach has_inner Admin = ⊥

-- each of these requests reached what it may
abbrev pub ReachEach : Bool → Endings → Type 0
ReachEach has_inner [] = ⊤
ReachEach has_inner (ending ∷ endings) =
    MayReach has_inner ending.reach.paths × ReachEach has_inner endings

-- the refreshes that were granted, with those of these requests
abbrev pub all_granted : List Refreshed → Endings → List Refreshed
all_granted granted [] = granted
all_granted granted (ending ∷ endings) =
    all_granted (with_granted ending.granted granted) endings

-- each of these requests that repeats a refresh repeats one that was granted before, at most so
-- many seconds ago
abbrev pub AreRepeats : ℕ → List Refreshed → Endings → Type 0
AreRepeats seconds granted [] = ⊤
AreRepeats seconds granted (ending ∷ endings) =
    MayRepeat seconds granted ending.again
    × AreRepeats seconds (with_granted ending.granted granted) endings

-- these refreshes are among those
abbrev pub AreAmong : List Refreshed → List Refreshed → Type 0
AreAmong some all = (it : Refreshed) → IsIn it some → IsIn it all

-- Requests repeated what may be repeated, and what is kept is of that or was granted by them.
pub record AreRepeated (old : RepeatsFields) (endings : Endings) (new : RepeatsFields) : Type 0
  where
    pub seconds : new.seconds ≡ old.seconds
    pub each : AreRepeats old.seconds old.kept endings
    pub kept : AreAmong new.kept (all_granted old.kept endings)

-- the generator after the words of these requests
abbrev pub past_each : ChaCha → Endings → ChaCha
past_each words [] = words
past_each words (end ∷ ends) = past_each (past_six words) ends

-- the counts with these requests
abbrev pub all_counted : Endings → Counts → Counts
all_counted [] counts = counts
all_counted (end ∷ ends) counts =
    all_counted ends (with_end end.end end.reach.paths end.path end.now counts)

-- requests are decided, one after the other, each with the next six random words; their records are
-- one behind the other
abbrev pub AreDecisions : ChaCha → Bool → EdgeFields → Endings → List ℕ → EdgeFields → Type 0
AreDecisions words log_taken old [] records new = (new ≡ old) × (records ≡ [])
AreDecisions words log_taken old (end ∷ ends) records new =
    (mid : EdgeFields) × (first : List ℕ) × (rest : List ℕ)
    × IsDecision (six words) log_taken old end first mid × (records ≡ first ++ rest)
    × AreDecisions (past_six words) log_taken mid ends rest new

-- a fault's line was written, or its beginning by a writer that failed; nothing is written without
-- a fault
abbrev pub Reports : Result Served Fault → Writer → Writer → Type 0
Reports (Ok served) old new = new ≡ old
Reports (Err fault) old new = Writes old new (connection_fault fault)

-- this fault's line was written, if there is one
abbrev pub ReportsOf : Option Fault → Writer → Writer → Type 0
ReportsOf None old new = new ≡ old
ReportsOf (Some fault) old new = Writes old new (connection_fault fault)

-- the faults of these requests were reported, in order
abbrev pub AreReported : Endings → Writer → Writer → Type 0
AreReported [] old new = new ≡ old
AreReported (end ∷ ends) old new =
    (mid : Writer) × Reports end.end old mid × AreReported ends mid new

-- an edge, with the bytes of its log and the writer of the lines about faults; and whether its
-- region is pruned between turns
pub record Running : Type 0 where
  pub edge : EdgeFields
  pub log : Option (List ℕ)
  pub faults : Writer
  pub prunes : Bool

-- the records are written behind what the log had; nothing is written of the log
pub record IsKept (old : Running) (mid : EdgeFields) (records : List ℕ) (told : Writer)
    (new : Running) : Type 0 where
  pub log : Appends old.log new.log records
  pub edge : new.edge ≡ mid
  pub faults : new.faults ≡ told
  pub prunes : new.prunes ≡ old.prunes

-- the log failed, so that it has a beginning of the records; the edge is sealed, and the fault
-- reported
pub record IsLost (old : Running) (mid : EdgeFields) (records : List ℕ) (told : Writer)
    (new : Running) : Type 0 where
  pub some : records ≢ []
  pub log : AppendsFront old.log new.log records
  pub edge : new.edge ≡ record mid { sealed = true }
  pub faults : Writes told new.faults (connection_fault Log)
  pub prunes : new.prunes ≡ old.prunes

-- The requests of a turn are decided, one after the other. The lines of their faults are written,
-- and their records are written at once, or the log fails.
pub record IsTurn (words : ChaCha) (log_taken : Bool) (old : Running) (ends : Endings)
    (new : Running) : Type 0 where
  pub edge : EdgeFields
  pub records : List ℕ
  pub told : Writer
  pub decided : AreDecisions words log_taken old.edge ends records edge
  pub lines : AreReported ends old.faults told
  pub log : IsKept old edge records told new ⊎ IsLost old edge records told new

-- the line of a reply was written that its client didn't take, and nothing else changed
pub record LacksReply (old new : Running) : Type 0 where
  pub line : Writes old.faults new.faults (connection_fault Write)
  pub others : new ≡ record old { faults = new.faults }

-- A slice of a prune was pruned of the region, up to some moment and above some cursor, and nothing
-- else changed. The region is pruned between turns.
pub record LosesSlice (old new : Running) : Type 0 where
  pub prunes : old.prunes ≡ true
  pub moment : ℕ
  pub after : Option Dot
  pub slice : Slice
  pub region : SlicesRegion old.edge.region moment after slice new.edge.region
  pub others : new ≡ record old { edge = record old.edge { region = new.edge.region } }

-- the edge with this text of its metrics
abbrev pub with_text : EdgeFields → List ℕ → EdgeFields
with_text edge text = record edge { terms = record edge.terms { metrics = Some text } }

-- The text of the metrics was made anew, and nothing else changed. The edge had such a text.
pub record ShowsAnew (old new : Running) : Type 0 where
  pub has : is_some old.edge.terms.metrics ≡ true
  pub text : List ℕ
  pub others : new ≡ record old { edge = with_text old.edge text }

-- between two turns: nothing happened, or a reply was lost, or a slice of the region was pruned, or
-- the text of the metrics was made anew
abbrev pub IsPause : Running → Running → Type 0
IsPause old new = (new ≡ old) ⊎ LacksReply old new ⊎ LosesSlice old new ⊎ ShowsAnew old new

-- The terms are unchanged but for the text of the metrics. There is one exactly if there was one.
pub record KeepTerms (old new : TermsFields) : Type 0 where
  pub has : is_some new.metrics ≡ is_some old.metrics
  pub others : new ≡ record old { metrics = new.metrics }

-- turns, one after the other, with a pause behind each
abbrev pub AreTurns : ChaCha → Bool → Running → List Endings → Running → Type 0
AreTurns words log_taken old [] new = new ≡ old
AreTurns words log_taken old (ends ∷ turns) new =
    (mid : Running) × (next : Running) × IsTurn words log_taken old ends mid
    × IsPause mid next × AreTurns (past_each words ends) log_taken next turns new

-- the requests of all turns
abbrev pub all_ends : List Endings → Endings
all_ends [] = []
all_ends (ends ∷ turns) = ends ++ all_ends turns

-- how many connections are served: as many as requested, or without end, for which the greatest
-- `u64` stands
abbrev pub so_many : Option ℕ → ℕ
so_many requests = unwrap_or requests (2 ^ 64 - 1)

-- connections are kept, if they may stay open between their requests for some seconds
abbrev pub keeps_in : Option ℕ → Bool
keeps_in seconds = nat_lt 0 (unwrap_or seconds 0)

-- as many connections as requested were served, from one state to the other
abbrev pub ServesAll : ChaCha → Option ℕ → Bool → ℕ → Bool → Bool → Running → Running → Type 0
ServesAll words requests keeps repeat has_inner log_taken old new =
    (turns : List Endings) × (connections_in (all_ends turns) ≡ so_many requests)
    × ClosesEach keeps (all_ends turns) × AreRepeats repeat [] (all_ends turns)
    × ReachEach has_inner (all_ends turns) × AreTurns words log_taken old turns new

-- An edge and the writer of the lines about faults, before and after its service, and whether its
-- region is pruned between turns.
pub record Course : Type 0 where
  pub start : EdgeFields
  pub end : EdgeFields
  pub faults : Writing
  pub prunes : Bool

-- as many connections as requested were served, with this log
abbrev pub ServesWith : ChaCha → Option ℕ → Bool → ℕ → Bool → Bool → Course → Change → Type 0
ServesWith words requests keeps repeat has_inner log_taken s log =
    ServesAll words requests keeps repeat has_inner log_taken
    (record {
      edge = s.start;
      log = log.before;
      faults = s.faults.before;
      prunes = s.prunes;
    })
    (record { edge = s.end; log = log.after; faults = s.faults.after; prunes = s.prunes })

-- As many connections as requested were served: with the log that was opened by this name, which
-- was empty, or without a log, if there is no name. `holds` has the bytes of a log, if they are
-- known, and `opens` which log a name opens.
abbrev pub ServesLogged : {A L : Type 0} → (L → Option (List ℕ)) → (List ℕ → L → Type 0)
    → Option (String A) → ChaCha → Option ℕ → Bool → ℕ → Bool → Bool → Course → Type 0
ServesLogged holds opens None words requests keeps repeat has_inner log_taken s =
    ServesWith words requests keeps repeat has_inner log_taken s
    (record { before = None; after = None })
ServesLogged {L = L} holds opens (Some name) words requests keeps repeat has_inner log_taken s =
    (opened : L) × (closed : L) × opens (string_bytes name) opened × IsEmptyLog (holds opened)
    × ServesWith words requests keeps repeat has_inner log_taken s
    (record { before = holds opened; after = holds closed })

-- a server with the bytes of its log and the writer of the lines about faults
pub record Site : Type 0 where
  pub server : Server
  pub log : Option (List ℕ)
  pub faults : Writer

-- what runs at a site
abbrev pub running : Site → Running
running site = record {
  edge = site.server.edge;
  log = site.log;
  faults = site.faults;
  prunes = is_some site.server.pruning.margin;
}

-- A server takes turns: each request has the next random words and is counted, and each connection
-- that ended is one less to be served.
pub record Goes (old new : Site) : Type 0 where
  pub turns : List Endings
  pub served : AreTurns old.server.words old.server.log_taken (running old) turns (running new)
  pub words : new.server.words ≡ past_each old.server.words (all_ends turns)
  pub counted : old.server.left ≡ connections_in (all_ends turns) + new.server.left
  pub closes : ClosesEach old.server.keeps (all_ends turns)
  pub keeps : new.server.keeps ≡ old.server.keeps
  pub repeats : AreRepeated old.server.repeats (all_ends turns) new.server.repeats
  pub reaches : ReachEach old.server.has_inner (all_ends turns)
  pub has_inner : new.server.has_inner ≡ old.server.has_inner
  pub margin : new.server.pruning.margin ≡ old.server.pruning.margin
  pub counts : new.server.tally.counts ≡ all_counted (all_ends turns) old.server.tally.counts
  pub log_taken : new.server.log_taken ≡ old.server.log_taken
  pub fault : new.server.fault ≡ old.server.fault
