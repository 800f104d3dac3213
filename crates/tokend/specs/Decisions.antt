-- What a server decides of the bytes that have come over its connections (own).
--   IsDecided      what is decided of these bytes, at a moment
--   Ending         how a request ended, whether its connection stays open, and what it reached
--   IsNamed        the path that a request is counted under
--   IsDecision     what is decided of some bytes that have come, and the record of it
--   FrontDecides   what serving the front of bytes decides
--   paths_by       which paths the requests of a socket reach
--   reach_by       the same, with the notices that the terms of an edge give
--   tally_with     what a server has counted, with one more request
--   Repeats        a server gives the reply to a refresh again
--   Decides        what a server decides of the bytes of a connection
--   Seals          a server whose log has failed is sealed
-- Throughout, `words` are the six random words of a request, `log_taken` is whether bundles taken
-- in are logged, and `end` is how the request ended.
use Rattle.std.specs.Prelude.{◌≡◌, ◌≢◌, ◌⊎◌, ⊤, ℕ, ◌+◌, ◌&&◌, Bool, true, false, List, [], length}
use Rattle.std.specs.Prelude.{find, Option, Some, None, Result, Ok, Err, not, if◌then◌else◌}
use Rattle.tk_edge.specs.EdgeFields.{EdgeFields, reach_of}
use Rattle.tk_edge.specs.Fronts.{HasCome, IsPartial}
use Rattle.tk_edge.specs.FrontServed.{IsServedBy}
use Rattle.tk_edge.specs.OpenReply.{IsOpenReply}
use Rattle.tk_edge.specs.Served.{Asked, IsTurnedAway}
use Rattle.tk_edge.specs.Terms.{TermsFields}
use Rattle.tk_edge.specs.Told.{Change}
use Rattle.tk_edge.specs.declared.edge.Served.{Served}
use Rattle.tk_edge.specs.declared.hear.Arrival.{Arrival}
use Rattle.tk_edge.specs.declared.reach.Reach.{Reach}
use Rattle.tk_edge.specs.declared.reach.PathSet.{PathSet}
use Rattle.tk_edge.specs.declared.reach.PathSet.TheVariants.{All, Clients}
use Rattle.tk_edge.specs.declared.edge.Served.TheVariants.{Nothing, Done}
use Rattle.tk_edge.specs.declared.front.Taken.{Taken}
use Rattle.tk_edge.specs.declared.path.Path.{Path}
use Rattle.tk_edge.specs.declared.tell.Fault.{Fault}
use Rattle.tk_edge.specs.declared.tell.Fault.TheVariants.{Read, Memory}
use Rattle.tk_message.specs.Place.{next_in}
use Rattle.tk_message.specs.declared.status_code.StatusCode.TheVariants as code
use Rattle.tk_region.specs.RegionFields.{place_in}
use Rattle.tk_turn.specs.Outcomes.{goes_on}
use Rattle.tk_turn.specs.declared.service.Outcome.{Outcome}
use Rattle.tk_turn.specs.declared.service.Outcome.TheVariants.{More, Decided, Ended}
use Rattle.tokend.specs.Counting.{with_end}
use Rattle.tokend.specs.Draw.{six, past_six}
use Rattle.tokend.specs.Repeats.{IsRefresh, IsRepeated, Repetition, RepeatsFields, granted_at}
use Rattle.tokend.specs.Repeats.{is_repeat, kept_with}
use Rattle.tokend.specs.declared.metrics.Tally.{Tally}
use Rattle.tokend.specs.declared.repeats.Refreshed.{Refreshed}
use Rattle.tokend.specs.declared.repeating.Refresh.{Refresh}
use Rattle.tokend.specs.declared.server.Server.{Server}

-- the change of a list in memory that gets these bytes
abbrev pub gains : List ℕ → Change
gains bytes = record { before = Some []; after = Some bytes }

-- A connection whose bytes have come, at a moment; `reach` says which paths it reaches.
pub record Asking : Type 0 where
  pub words : List ℕ
  pub log_taken : Bool
  pub reach : Reach
  pub now : ℕ
  pub bytes : List ℕ
  pub over : Bool

-- the connection as this edge sees it
abbrev pub asked_of : Asking → EdgeFields → Asked
asked_of asking edge = record {
  reach = asking.reach;
  terms = edge.terms;
  log_taken = asking.log_taken;
  known = None;
  now = asking.now;
  words = asking.words;
}

-- a connection ended without a request: it couldn't be read, or nothing more came
abbrev pub IsUnheard : Result Served Fault → Type 0
IsUnheard (Err Read) = ⊤
IsUnheard (Ok Nothing) = ⊤
IsUnheard end = ⊥

-- What is decided of bytes that have come: an edge that isn't sealed serves them, whatever follows
-- them. A sealed edge stays as it is, and turns them away. Or the connection ended without them.
pub record IsDecided (asking : Asking) (old : EdgeFields) (end : Result Served Fault)
    (reply logged : List ℕ) (new : EdgeFields) : Type 0 where
  pub served : old.sealed ≡ false
      → IsServedBy (asked_of asking old) asking.bytes asking.over
      (record { before = old.region; after = new.region }) (gains logged) (logged ≡ [])
      (gains reply) new.sealed end
  pub shut : old.sealed ≡ true
      → (new ≡ old) × (logged ≡ []) × (IsTurnedAway (gains reply) end ⊎ IsUnheard end)
  pub terms : new.terms ≡ old.terms

-- what was taken of the bytes that have come: those of one request and no more, or all by a sealed
-- edge, whose connections end
abbrev pub IsTaken : Asking → EdgeFields → Taken → Type 0
IsTaken asking old taken =
    (old.sealed ≡ false
    → (came : Arrival) × HasCome asking.reach asking.bytes asking.over came taken)
    × (old.sealed ≡ true
    → taken ≡ record { size = length asking.bytes; stays = false; path = None })

-- How a request ended, whether its connection stays open behind the reply, which paths it reached
-- and which one it named, when that was, the refresh that was granted by it, if one is kept, and
-- the one that it repeated, if it did.
pub record Ending : Type 0 where
  pub end : Result Served Fault
  pub stays : Bool
  pub reach : Reach
  pub path : Option Path
  pub now : ℕ
  pub granted : Option Refreshed
  pub again : Option Repetition

-- a connection stays only behind a request that lets it (RFC 9112, 9.3)
abbrev pub MayStay : Asking → EdgeFields → Bool → Type 0
MayStay asking old false = ⊤
MayStay asking old true = (taken : Taken) × IsTaken asking old taken × (taken.stays ≡ true)

-- a reply is counted under the path that its request names; a sealed edge reads none
abbrev pub IsNamed : Asking → EdgeFields → Result Served Fault → Option Path → Type 0
IsNamed asking old (Ok (Done status)) path =
    (taken : Taken) × IsTaken asking old taken × (path ≡ taken.path)
IsNamed asking old end path = ⊤

-- the refresh that is kept of a request is one that came, and was granted (RFC 6749, 5.1)
abbrev pub MayGrant : Asking → EdgeFields → Result Served Fault → Option Refreshed → Type 0
MayGrant asking old end None = ⊤
MayGrant asking old end (Some it) =
    (refresh : Refresh) × (taken : Taken)
    × IsRefresh asking.reach asking.bytes asking.over refresh taken
    × (it ≡ granted_at refresh asking.now (next_in (place_in old.region)) asking.words)
    × (end ≡ Ok (Done code.Ok))

-- what is asked by the bytes that have come, of a request that ended so
abbrev pub asking_as : List ℕ → Bool → Ending → List ℕ → Bool → Asking
asking_as words log_taken ending bytes over = record {
  words = words;
  log_taken = log_taken;
  reach = ending.reach;
  now = ending.now;
  bytes = bytes;
  over = over;
}

-- what is decided of some bytes that have come, with its record; whether the connection may stay,
-- the refresh that is kept of it, and the path that it is counted under
abbrev pub IsDecisionOf : List ℕ → Bool → EdgeFields → Ending → List ℕ → EdgeFields → Type 0
IsDecisionOf words log_taken old ending logged new =
    (bytes : List ℕ) × (over : Bool) × (reply : List ℕ)
    × IsDecided (asking_as words log_taken ending bytes over) old ending.end reply logged new
    × MayStay (asking_as words log_taken ending bytes over) old ending.stays
    × MayGrant (asking_as words log_taken ending bytes over) old ending.end ending.granted
    × IsNamed (asking_as words log_taken ending bytes over) old ending.end ending.path

-- a refresh is repeated: it gets its reply again, nothing is logged, and the edge is unchanged
abbrev pub IsRepetition : Repetition → EdgeFields → Ending → List ℕ → EdgeFields → Type 0
IsRepetition it old ending logged new =
    (new ≡ old) × (logged ≡ []) × (ending.end ≡ Ok (Done code.Ok)) × (ending.granted ≡ None)
    × (ending.now ≡ it.now)
    × ((bytes : List ℕ) × (over : Bool) × (taken : Taken) × (reply : List ℕ)
    × IsRepeated ending.reach bytes over old it taken reply
    × (ending.stays ≡ true → taken.stays ≡ true) × (ending.path ≡ taken.path))

-- what is decided of some bytes, by what they repeat
abbrev pub IsDecisionBy : Option Repetition → List ℕ → Bool → EdgeFields → Ending → List ℕ
    → EdgeFields → Type 0
IsDecisionBy None words log_taken old ending logged new =
    IsDecisionOf words log_taken old ending logged new
IsDecisionBy (Some it) words log_taken old ending logged new =
    IsRepetition it old ending logged new

-- what is decided of some bytes that have come: anew, or as a refresh that is repeated
abbrev pub IsDecision : List ℕ → Bool → EdgeFields → Ending → List ℕ → EdgeFields → Type 0
IsDecision words log_taken old ending logged new =
    IsDecisionBy ending.again words log_taken old ending logged new

-- what serving the front of bytes decides: nothing, as no request is whole, or how the connection
-- ended
abbrev pub FrontDecides : Asking → EdgeFields → Result (Option (Served × Taken)) Fault → List ℕ
    → List ℕ → EdgeFields → Type 0
FrontDecides asking old (Ok None) reply logged new =
    (old.sealed ≡ false) × IsPartial asking.reach asking.bytes asking.over
    × (new ≡ old) × (reply ≡ []) × (logged ≡ [])
FrontDecides asking old (Ok (Some end)) reply logged new =
    IsTaken asking old end.1 × IsDecided asking old (Ok end.0) reply logged new
FrontDecides asking old (Err fault) reply logged new =
    IsDecided asking old (Err fault) reply logged new

-- what is made of a connection that was served: a further request is read of it only if connections
-- are kept and its request lets it stay
abbrev pub outcome_by : Bool → Served → Taken → Outcome
outcome_by keeps Nothing taken = Ended
outcome_by keeps (Done status) taken = Decided taken.size (keeps && taken.stays)

-- what is made of a connection whose request ended so
abbrev pub IsOutcome : Bool → Result Served Fault → Asking → EdgeFields → Outcome → Type 0
IsOutcome keeps (Ok served) asking old outcome =
    (taken : Taken) × IsTaken asking old taken × (outcome ≡ outcome_by keeps served taken)
IsOutcome keeps (Err fault) asking old outcome = outcome ≡ Ended

-- the faults of a connection that ended before its request was whole
abbrev pub IsUnread : Fault → Type 0
IsUnread Read = ⊤
IsUnread Memory = ⊤
IsUnread fault = ⊥

-- a reply as it is sent: over a connection that stays it doesn't say that the connection ends
abbrev pub IsReplied : Bool → List ℕ → List ℕ → Type 0
IsReplied false reply sent = sent ≡ reply
IsReplied true reply sent = IsOpenReply reply sent

-- what may be sent of a reply: a fault leaves nothing of it
abbrev pub IsSent : Bool → Result Served Fault → List ℕ → List ℕ → Type 0
IsSent stays (Ok served) reply sent = IsReplied stays reply sent
IsSent stays (Err fault) reply sent = sent ≡ []

-- how many connections end
abbrev pub ended_if : Bool → ℕ
ended_if true = 0
ended_if false = 1

-- the fault of a connection, if any
abbrev pub fault_of : Result Served Fault → Option Fault
fault_of (Ok served) = None
fault_of (Err fault) = Some fault

-- the repeats with the refresh that was granted, if it is kept
abbrev pub kept_by : Option Refreshed → RepeatsFields → RepeatsFields
kept_by None repeats = repeats
kept_by (Some it) repeats = kept_with it repeats

-- which paths the requests of a socket reach: those of clients alone over an outer socket beside an
-- inner one, otherwise all
abbrev pub paths_by : Bool → Bool → PathSet
paths_by has_inner is_inner = if has_inner && not is_inner then Clients else All

-- what a server has counted, with one more request that ended so and names this path
abbrev pub tally_with : Server → Result Served Fault → Option Path → Tally
tally_with old end path = record old.tally {
  counts = with_end end (paths_by old.has_inner old.is_inner) path old.now old.tally.counts;
}

-- a server after a request with this end, which names this path, and this refresh that is kept of
-- it: this many connections are left, the request is counted, and the next one has the next words
abbrev pub moved_on : Server → Result Served Fault → Option Path → EdgeFields → Option Refreshed
    → ℕ → Server
moved_on old end path edge granted left = record old {
  edge = edge;
  words = past_six old.words;
  left = left;
  fault = fault_of end;
  repeats = kept_by granted old.repeats;
  tally = tally_with old end path;
}

-- what the requests of a socket reach, with the notices that the terms give
abbrev pub reach_by : TermsFields → Bool → Bool → Reach
reach_by terms has_inner is_inner = reach_of terms (paths_by has_inner is_inner)

-- the bytes of a connection, as a server decides them
abbrev pub asking_of : Server → List ℕ → Bool → Asking
asking_of server bytes over = record {
  words = six server.words;
  log_taken = server.log_taken;
  reach = reach_by server.edge.terms server.has_inner server.is_inner;
  now = server.now;
  bytes = bytes;
  over = over;
}

-- a server decides how the request ended, and whether its connection did
pub record Ends (old : Server) (bytes : List ℕ) (over : Bool) (outcome : Outcome)
    (replied logged : List ℕ) (new : Server) : Type 0 where
  pub end : Result Served Fault
  pub reply : List ℕ
  pub told : old.fault ≡ None
  pub decided : IsDecided (asking_of old bytes over) old.edge end reply logged new.edge
  pub is_outcome : IsOutcome old.keeps end (asking_of old bytes over) old.edge outcome
  pub is_sent : IsSent (goes_on outcome) end reply replied
  pub granted : Option Refreshed
  pub is_granted : MayGrant (asking_of old bytes over) old.edge end granted
  pub path : Option Path
  pub is_named : IsNamed (asking_of old bytes over) old.edge end path
  pub left : ℕ
  pub counted : old.left ≡ left + ended_if (goes_on outcome)
  pub moved : new ≡ moved_on old end path new.edge granted left

-- a server decides nothing: no request is whole, no connection is left to be served, or a fault
-- isn't reported yet
pub record Waits (old : Server) (bytes : List ℕ) (over : Bool) (replied logged : List ℕ)
    (new : Server) : Type 0 where
  pub why : IsPartial (reach_by old.edge.terms old.has_inner old.is_inner) bytes over
      ⊎ ((old.left ≡ 0) ⊎ (old.fault ≢ None))
  pub same : new ≡ old
  pub unreplied : replied ≡ []
  pub unlogged : logged ≡ []

-- A server gives the reply to a refresh again, if refreshes may be repeated and it keeps the one
-- that the request repeats. Its edge is unchanged, and nothing is logged.
pub record Repeats (old : Server) (bytes : List ℕ) (over : Bool) (outcome : Outcome)
    (replied logged : List ℕ) (new : Server) : Type 0 where
  pub told : old.fault ≡ None
  pub on : old.repeats.seconds ≢ 0
  pub it : Refreshed
  pub taken : Taken
  pub reply : List ℕ
  pub repeated : IsRepeated (reach_by old.edge.terms old.has_inner old.is_inner) bytes over old.edge
      (record { refreshed = it; now = old.now }) taken reply
  pub found : find (is_repeat old.repeats.seconds old.now repeated.refresh.parent
      repeated.refresh.request) old.repeats.kept ≡ Some it
  pub is_outcome : outcome ≡ outcome_by old.keeps (Done code.Ok) taken
  pub is_sent : IsReplied (goes_on outcome) reply replied
  pub unlogged : logged ≡ []
  pub left : ℕ
  pub counted : old.left ≡ left + ended_if (goes_on outcome)
  pub moved : new ≡ moved_on old (Ok (Done code.Ok)) taken.path old.edge None left

-- what a server decides of the bytes of a connection
abbrev pub Decides : Server → List ℕ → Bool → Outcome → List ℕ → List ℕ → Server → Type 0
Decides old bytes over More replied logged new = Waits old bytes over replied logged new
Decides old bytes over outcome replied logged new =
    Ends old bytes over outcome replied logged new
    ⊎ Repeats old bytes over outcome replied logged new

-- a server whose log has failed is sealed, and nothing else changes
abbrev pub Seals : Server → Server → Type 0
Seals old new = new ≡ record old { edge = record old.edge { sealed = true } }
