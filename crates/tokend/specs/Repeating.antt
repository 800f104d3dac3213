-- What a request asks of a server that lets refreshes be repeated (own).
--   IsRefreshOf   a request is a refresh
--   IsAsked       what the request at the front of the bytes asks
--   Keeps         what a server keeps of a refresh that was granted
--   GivesAgain    a server gives a reply again
--   FallsShort    a server ends a connection, because memory is short
use Rattle.std.specs.Prelude.{◌≡◌, ◌≢◌, ◌⊎◌, ⊤, ℕ, ◌+◌, Bool, true, false, List, ◌++◌, Option}
use Rattle.std.specs.Prelude.{Some, None, Ok, Err, find}
use Rattle.tk_handle.specs.declared.dot.Dot.{Dot}
use Rattle.tk_handle.specs.declared.handle.Handle.{Handle}
use Rattle.tk_edge.specs.declared.edge.Served.{Served}
use Rattle.tk_edge.specs.declared.edge.Served.TheVariants.{Nothing, Done}
use Rattle.tk_edge.specs.declared.front.Taken.{Taken}
use Rattle.tk_edge.specs.declared.hear.Arrival.{Arrival}
use Rattle.tk_edge.specs.declared.hear.Arrival.TheVariants.{Request}
use Rattle.tk_edge.specs.declared.reach.Reach.{Reach}
use Rattle.tk_edge.specs.declared.tell.Fault.TheVariants.{Memory}
use Rattle.tk_turn.specs.Outcomes.{goes_on}
use Rattle.tk_turn.specs.declared.service.Outcome.{Outcome}
use Rattle.tk_turn.specs.declared.service.Outcome.TheVariants.{Ended}
use Rattle.tk_grant.specs.Repeat.{is_refresh_request}
use Rattle.tk_region.specs.RegionFields.{RegionFields}
use Rattle.tk_region.specs.Repeating.{minted_refresh}
use Rattle.tk_message.specs.RequestFields.{RequestFields}
use Rattle.tk_message.specs.declared.status_code.StatusCode.{StatusCode}
use Rattle.tk_message.specs.declared.status_code.StatusCode.TheVariants as code
use Rattle.tokend.specs.Decisions.{IsReplied, ended_if, kept_by, moved_on, outcome_by}
use Rattle.tokend.specs.Repeats.{IsRefresh, IsRepeated, granted_at, is_repeat, used_in}
use Rattle.tokend.specs.declared.repeats.Refreshed.{Refreshed}
use Rattle.tokend.specs.declared.repeating.Asked.{Asked}
use Rattle.tokend.specs.declared.repeating.Asked.TheVariants as asked
use Rattle.tokend.specs.declared.repeating.Refresh.{Refresh}
use Rattle.tokend.specs.declared.server.Server.{Server}

-- the dot of a handle
abbrev pub dot_of : Option Handle → Option Dot
dot_of None = None
dot_of (Some h) = Some h.id.dot

-- a refresh with what it took of the bytes
abbrev pub with_taken : Option Refresh → Taken → Option (Refresh × Taken)
with_taken None taken = None
with_taken (Some refresh) taken = Some (refresh, taken)

-- the request is this refresh
abbrev pub IsRefreshOf : RequestFields → Refresh → Type 0
IsRefreshOf request refresh =
    (refresh.request ≡ request) × (is_refresh_request request ≡ true)
    × (used_in request ≡ Some refresh.parent)

-- what came is this refresh
abbrev pub IsRefreshIn : Arrival → Refresh → Type 0
IsRefreshIn came refresh =
    (came ≡ Request refresh.request) × (is_refresh_request refresh.request ≡ true)
    × (used_in refresh.request ≡ Some refresh.parent)

-- A refresh repeats one that the server keeps, and gets this reply again.
pub record IsAgain (server : Server) (reach : Reach) (bytes : List ℕ) (over : Bool)
    (reply : List ℕ) (taken : Taken) : Type 0 where
  pub on : server.repeats.seconds ≢ 0
  pub it : Refreshed
  pub repeated : IsRepeated reach bytes over server.edge
      (record { refreshed = it; now = server.now }) taken reply
  pub found : find (is_repeat server.repeats.seconds server.now repeated.refresh.parent
      repeated.refresh.request) server.repeats.kept ≡ Some it

-- what the request at the front of the bytes asks
abbrev pub IsAsked : Server → Reach → List ℕ → Bool → Asked → Type 0
IsAsked server reach bytes over asked.Other = ⊤
IsAsked server reach bytes over (asked.Refresh refresh) =
    (taken : Taken) × IsRefresh reach bytes over refresh taken
IsAsked server reach bytes over (asked.Again reply taken) =
    IsAgain server reach bytes over reply.items taken
IsAsked server reach bytes over asked.Short = ⊤

-- the status is 200
abbrev pub is_ok : StatusCode → Bool
is_ok code.Ok = true
is_ok status = false

-- a request was granted what it asked for
abbrev pub is_granted : Served → Bool
is_granted Nothing = false
is_granted (Done status) = is_ok status

-- what is kept of a refresh, if anything: it was granted, and minted a refresh token
abbrev pub IsKept : RegionFields → Option Refresh → Served → ℕ → Dot → List ℕ → Option Refreshed
    → Type 0
IsKept region refresh served now dot words None = ⊤
IsKept region None served now dot words (Some it) = ⊥
IsKept region (Some refresh) served now dot words (Some it) =
    (it ≡ granted_at refresh now dot words) × (served ≡ Done code.Ok)
    × (minted_refresh region dot ≡ true)

-- a server keeps a refresh that was granted a refresh token, unless memory is short for it; else it
-- is unchanged
abbrev pub Keeps : Server → Option Refresh → Served → Dot → List ℕ → Server → Type 0
Keeps old refresh served dot words new =
    (granted : Option Refreshed)
    × IsKept old.edge.region refresh served old.now dot words granted
    × (new ≡ record old { repeats = kept_by granted old.repeats })

-- this refresh came at the front of the bytes
abbrev pub IsCome : Reach → List ℕ → Bool → Refresh → Type 0
IsCome reach bytes over refresh = (taken : Taken) × IsRefresh reach bytes over refresh taken

-- a server ends a connection, because memory is short: one less is to be served
abbrev pub FallsShort : Server → Outcome → Server → Type 0
FallsShort old outcome new =
    (outcome ≡ Ended) × ((left : ℕ) × (old.left ≡ left + 1)
    × (new ≡ moved_on old (Err Memory) None old.edge None left))

-- a server gives a reply again, behind other replies, as it is sent
pub record IsGiven (old : Server) (taken : Taken) (reply : List ℕ) (outcome : Outcome)
    (before after : List ℕ) (new : Server) : Type 0 where
  pub is_outcome : outcome ≡ outcome_by old.keeps (Done code.Ok) taken
  pub sent : List ℕ
  pub is_sent : IsReplied (goes_on outcome) reply sent
  pub behind : after ≡ before ++ sent
  pub left : ℕ
  pub counted : old.left ≡ left + ended_if (goes_on outcome)
  pub moved : new ≡ moved_on old (Ok (Done code.Ok)) taken.path old.edge None left

-- a server gives a reply again, or memory is short for it
abbrev pub GivesAgain : Server → Taken → List ℕ → Outcome → List ℕ → List ℕ → Server → Type 0
GivesAgain old taken reply outcome before after new =
    IsGiven old taken reply outcome before after new
    ⊎ ((after ≡ before) × FallsShort old outcome new)
