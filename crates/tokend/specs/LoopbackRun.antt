-- A script whose requests go through sockets (own). The bytes of sockets are unknown, so that some
-- request is answered in place of the script's, and the reply has the answer's status and unknown
-- bytes. Whatever the requests were, the promises about facts hold of the run.
--   max_request      the greatest length of a request
--   by_sockets       the way of requests through sockets
--   RunsBySockets    a run of events, with what is promised of it
--   IsSocketFault    the faults of sockets and memory
--   by_loopback      a script is run in a new world with its requests through sockets
use Rattle.std.specs.Prelude.{◌≡◌, ◌≢◌, ⊤, ℕ, List, Some}
use Rattle.tk_edge.specs.declared.hear.Arrival.TheVariants.{Silence}
use Rattle.tk_region.specs.SettingsFields.{SettingsFields}
use Rattle.tk_store.specs.FactSet.{FactSet}
use Rattle.tk_world.specs.Acts.{ActsBy}
use Rattle.tk_world.specs.Carrying.{Way}
use Rattle.tk_world.specs.Headline.{AnswersFor, RunStands}
use Rattle.tk_world.specs.Promises.{RevokedInactive, FamiliesInactive}
use Rattle.tk_world.specs.State.{State}
use Rattle.tk_world.specs.WorldFields.{WorldFields, new_world, store_in}
use Rattle.tk_world.specs.WorldStands.{IsStanding, WorldStands}
use Rattle.tk_world.specs.declared.event.Event.{Event}
use Rattle.tk_world.specs.declared.event.Outcome.{Outcome}
use Rattle.tokend.specs.ScriptRun.{Mode}
use Rattle.tokend.specs.declared.fault.Fault.{Fault}
use Rattle.tokend.specs.declared.fault.Fault.TheVariants.{Memory, SocketFailed}

-- the greatest length of a request in bytes, which a socket takes before the request is read (own)
abbrev pub max_request : ℕ
max_request = 16384

-- the way of requests through sockets: some request that isn't empty is heard, and the reply has
-- the status of its answer
abbrev pub by_sockets : Way
by_sockets = record {
  Hears = λ bytes heard. heard ≢ Silence;
  Shows = λ answer status bytes. status ≡ answer.status;
}

-- the events are run with their requests through sockets, and the promises of a run of a world hold
-- that don't depend on the bytes of requests and replies
pub record RunsBySockets (old : WorldFields) (events : List Event)
    (outcomes : List Outcome) : Type 0 where
  pub after : WorldFields
  pub acts : ActsBy by_sockets old events outcomes after
  pub run : (made : FactSet) (state : State) → WorldStands old made state
      → RunStands by_sockets state events outcomes after
  pub standing : IsStanding after
  pub answers : (made : FactSet) (state : State) → WorldStands after made state
      → AnswersFor after state
  pub revoked : RevokedInactive (store_in after)
  pub families : FamiliesInactive (store_in after)

-- the faults of sockets and memory: memory ran out, or a socket failed
abbrev pub IsSocketFault : Fault → Type 0
IsSocketFault Memory = ⊤
IsSocketFault SocketFailed = ⊤
IsSocketFault fault = ⊥

-- the events are run in a new world with these settings and with their requests through sockets
abbrev pub by_loopback : SettingsFields → Mode
by_loopback settings = record {
  longest = Some max_request;
  Runs = λ events outcomes. RunsBySockets (new_world settings) events outcomes;
  Fails = IsSocketFault;
}
