-- What a run leaves that ended with an error (own).
--   Loses         what a world may be after a request was lost
--   Requests      how carrying a request to a region may end
--   Steps         how one event may end
--   IsBrokenOff   the events before a request were run, and the request was lost
--   BreaksOff     what a run leaves, by its error
use Rattle.std.specs.Prelude.{◌≡◌, ◌⊎◌, ℕ, List, take, slice_get, Some, Result, Ok, Err}
use Rattle.tk_store.specs.StoreFields.{StoreFields}
use Rattle.tk_edge.specs.declared.hear.Arrival.{Arrival}
use Rattle.tk_world.specs.declared.carrier.RunError.{RunError}
use Rattle.tk_world.specs.declared.carrier.RunError.TheVariants.{Memory, Lost}
use Rattle.tk_world.specs.declared.event.Event.{Event}
use Rattle.tk_world.specs.declared.event.Event.TheVariants.{Request}
use Rattle.tk_world.specs.declared.event.Outcome.{Outcome}
use Rattle.tk_world.specs.Acts.{ActBy, ActsBy, AnswersAt, MakesAt}
use Rattle.tk_world.specs.AskedFields.{AskedFields}
use Rattle.tk_world.specs.Carrying.{Way}
use Rattle.tk_world.specs.WorldFields.{WorldFields}

-- a request to a region was lost: nothing changed, or the fact made for the answer, if any, is
-- added
abbrev pub Loses : Way → WorldFields → ℕ → AskedFields → WorldFields → Type 0
Loses way old r asked new =
    (new ≡ old)
    ⊎ ((P : StoreFields) × (heard : Arrival) × way.Hears asked.bytes heard
    × MakesAt old r P asked heard new)

-- a request to a region has an outcome, or was lost
abbrev pub Requests : {F : Type 0} → Way → WorldFields → ℕ → AskedFields → Result Outcome F
    → WorldFields → Type 0
Requests way old r asked (Ok outcome) new = AnswersAt way old r asked outcome new
Requests way old r asked (Err fault) new = Loses way old r asked new

-- an event has an outcome, or is a request that was lost
abbrev pub Steps : {F : Type 0} → Way → WorldFields → Event → Result Outcome F → WorldFields
    → Type 0
Steps way old event (Ok outcome) new = ActBy way old event outcome new
Steps way old (Request r now words bytes) (Err fault) new =
    Loses way old r (record { now = now; words = words; bytes = bytes.items }) new
Steps way old event (Err fault) new = ⊥

-- the events before one were run, and that one is a request that was lost
pub record IsBrokenOff {F : Type 0} (way : Way) (old : WorldFields) (events : List Event)
    (fault : F) (new : WorldFields) : Type 0 where
  pub done : ℕ
  pub event : Event
  pub outcomes : List Outcome
  pub mid : WorldFields
  pub next : slice_get events done ≡ Some event
  pub run : ActsBy way old (take done events) outcomes mid
  pub lost : Steps way mid event (Err fault) new

-- what a run leaves, by its error: no event was run, or a request was lost
abbrev pub BreaksOff : {F : Type 0} → Way → WorldFields → List Event → WorldFields → RunError F
    → Type 0
BreaksOff way old events new Memory = new ≡ old
BreaksOff way old events new (Lost fault) = IsBrokenOff way old events fault new
