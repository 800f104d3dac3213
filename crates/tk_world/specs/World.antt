-- What an event may do to a state, and what a run of events is (own). The state has all facts: a
-- prune raises the horizon of its region, and takes no fact away.
--   IsUnchanged   no fact was shown and nothing changed
--   Grows         a region's facts are joined with those that it was shown
--   IsOpening     how opening a region may end
--   IsAnswer      how a request may end
--   IsPull        how making a bundle may end
--   IsDelivery    how a delivery may end
--   IsPruning     how a prune may end
--   IsSlicing     how a slice of a prune may end
--   StepBy        one event, if requests go this way: its outcome, the facts that it showed its
--                 region, and the new state
--   RunBy         one step after another, if requests go this way
--   Step, Run     the same without a device between
--   state_before  the state before an event of a run
--   seen_by       what a region has seen: the facts that it made and took in
use Rattle.std.specs.Prelude.{◌≡◌, ◌⊎◌, ℕ, zero, suc, ◌+◌, ◌==◌, if◌then◌else◌, max, List, []}
use Rattle.std.specs.Prelude.{◌∷◌, ◌++◌, length, take, slice_get, Option, Some, None, IsSome}
use Rattle.std.specs.FinMap as map
use Rattle.tk_handle.specs.declared.dot.Dot.{Dot}
use Rattle.tk_vector.specs.VersionVector.{Vector}
use Rattle.tk_fact.specs.declared.body.Body.{Body}
use Rattle.tk_store.specs.FactSet.{FactSet}
pub use Rattle.tk_store.specs.FactSet.{Facts}
use Rattle.tk_store.specs.Joining.{JoinsFacts}
use Rattle.tk_region.specs.Step.{listed}
use Rattle.tk_edge.specs.Told.{AnswerFields}
use Rattle.tk_edge.specs.declared.hear.Arrival.{Arrival}
use Rattle.tk_world.specs.declared.event.Event.{Event}
use Rattle.tk_world.specs.declared.event.Event.TheVariants.{Open, Request, Pull, Deliver, Prune}
use Rattle.tk_world.specs.declared.event.Event.TheVariants.{PruneSome}
use Rattle.tk_world.specs.declared.event.Outcome.{Outcome}
use Rattle.tk_world.specs.declared.event.Outcome.TheVariants.{Opened, NumberTaken, NoRegion}
use Rattle.tk_world.specs.declared.event.Outcome.TheVariants.{NoBundle, Reply, Bundle, Took, Pruned}
use Rattle.tk_world.specs.declared.event.Outcome.TheVariants.{PrunedSome, Memory}
use Rattle.tk_world.specs.AskedFields.{AskedFields}
use Rattle.tk_world.specs.Carrying.{Way, in_place}
use Rattle.tk_world.specs.Pages.{page_of}
use Rattle.tk_world.specs.State.{Kept, Sent, State, new_kept, with_region, with_bundle}
use Rattle.tk_world.specs.State.{region_with}
use Rattle.tk_world.specs.Told.{TellsBy}

-- no fact was shown to a region, and nothing changed
abbrev pub IsUnchanged : State → Facts → State → Type 0
IsUnchanged old seen new = (seen ≡ []) × (new ≡ old)

-- a horizon raised to a moment, if one is given and it is later
abbrev pub raised_to : ℕ → Option ℕ → ℕ
raised_to horizon None = horizon
raised_to horizon (Some moment) = max horizon moment

-- a region's facts become their join with those shown, which agree with them, and its horizon is
-- raised to the moment, if one is given; the rest of the state is unchanged
pub record Grows (old : State) (r : ℕ) (k : Kept) (moment : Option ℕ) (seen : Facts)
    (new : State) : Type 0 where
  pub is_open : map.get old.regions r ≡ Some k
  pub grown : FactSet
  pub joins : JoinsFacts k.facts seen grown
  pub changes : new
      ≡ with_region old r (record { facts = grown; horizon = raised_to k.horizon moment })

-- ---- what each event may do, and with which outcomes

-- opening a region may end with a region without facts, a number that is taken, or no memory
abbrev pub IsOpening : State → ℕ → Outcome → Facts → State → Type 0
IsOpening old n Opened seen new =
    (map.get old.regions n ≡ None) × (seen ≡ []) × (new ≡ with_region old n new_kept)
IsOpening old n NumberTaken seen new = IsSome (map.get old.regions n) × IsUnchanged old seen new
IsOpening old n Memory seen new = (map.get old.regions n ≡ None) × IsUnchanged old seen new
IsOpening old n outcome seen new = ⊥

-- The reply shows the region's answer to what the bytes are heard as, over all its facts, and the
-- fact made for it, if any, joins them. A token that it doesn't know may be revoked once more as if
-- it was the first time. Before the horizon the answer is `temporarily_unavailable`.
abbrev pub IsAnswer : Way → State → ℕ → AskedFields → Outcome → Facts → State → Type 0
IsAnswer way old r asked (Reply status bytes) seen new =
    (k : Kept) × Grows old r k None seen new × (heard : Arrival) × way.Hears asked.bytes heard
    × (answer : AnswerFields) × (fact : Option (Dot × Body))
    × TellsBy (region_with old r k) k.facts asked.now asked.words heard answer fact
    × way.Shows answer status bytes.items × (seen ≡ listed fact)
IsAnswer way old r asked NoRegion seen new =
    (map.get old.regions r ≡ None) × IsUnchanged old seen new
IsAnswer way old r asked Memory seen new =
    IsSome (map.get old.regions r) × IsUnchanged old seen new
IsAnswer way old r asked outcome seen new = ⊥

-- The page above the cursor of what the vector doesn't cover joins the list of bundles. The bundle
-- has the region's horizon if the region skipped one of its facts.
abbrev pub IsPull : State → ℕ → Vector → Option Dot → Outcome → Facts → State → Type 0
IsPull old r v after (Bundle index count last more) seen new =
    (k : Kept) × (map.get old.regions r ≡ Some k) × (seen ≡ []) × (horizon : Option ℕ)
    × ((horizon ≡ None) ⊎ (horizon ≡ Some k.horizon))
    × (let page = page_of k.facts v after in
    (index ≡ length old.bundles) × (count ≡ length page.facts) × (last ≡ page.last)
    × (more ≡ page.more)
    × (new ≡ with_bundle old (record { facts = page.facts; horizon = horizon })))
IsPull old r v after NoRegion seen new = (map.get old.regions r ≡ None) × IsUnchanged old seen new
IsPull old r v after Memory seen new = IsSome (map.get old.regions r) × IsUnchanged old seen new
IsPull old r v after outcome seen new = ⊥

-- The facts join all facts of the bundle, and grow by the number that they lacked; the horizon is
-- raised to the bundle's. If memory runs out, nothing changed, or the facts join the first of the
-- bundle's.
abbrev pub IsDelivery : State → ℕ → ℕ → Outcome → Facts → State → Type 0
IsDelivery old i r (Took n) seen new =
    (k : Kept) × (b : Sent) × (slice_get old.bundles i ≡ Some b) × (seen ≡ b.facts)
    × (grows : Grows old r k b.horizon seen new) × (map.len k.facts + n ≡ map.len grows.grown)
IsDelivery old i r Memory seen new =
    (IsSome (map.get old.regions r) × IsUnchanged old seen new)
    ⊎ ((k : Kept) × (b : Sent) × (slice_get old.bundles i ≡ Some b) × (n : ℕ)
    × (seen ≡ take n b.facts) × Grows old r k b.horizon seen new)
IsDelivery old i r NoRegion seen new = (map.get old.regions r ≡ None) × IsUnchanged old seen new
IsDelivery old i r NoBundle seen new =
    IsSome (map.get old.regions r) × (slice_get old.bundles i ≡ None) × IsUnchanged old seen new
IsDelivery old i r outcome seen new = ⊥

-- a prune raises the region's horizon to the moment, whatever the region skipped; all facts stay
abbrev pub IsPruning : State → ℕ → ℕ → Outcome → Facts → State → Type 0
IsPruning old r moment (Pruned n) seen new = (k : Kept) × Grows old r k (Some moment) seen new
    × (seen ≡ [])
IsPruning old r moment NoRegion seen new =
    (map.get old.regions r ≡ None) × IsUnchanged old seen new
IsPruning old r moment Memory seen new =
    IsSome (map.get old.regions r) × IsUnchanged old seen new
IsPruning old r moment outcome seen new = ⊥

-- a slice of a prune raises the region's horizon to the moment, whatever facts it looked at and
-- skipped; all facts stay
abbrev pub IsSlicing : State → ℕ → ℕ → Outcome → Facts → State → Type 0
IsSlicing old r moment (PrunedSome slice) seen new =
    (k : Kept) × Grows old r k (Some moment) seen new × (seen ≡ [])
IsSlicing old r moment NoRegion seen new =
    (map.get old.regions r ≡ None) × IsUnchanged old seen new
IsSlicing old r moment outcome seen new = ⊥

-- ---- steps and runs

-- From old, the event may have this outcome, show its region these facts, and lead to new, if
-- requests go this way.
abbrev pub StepBy : Way → State → Event → Outcome → Facts → State → Type 0
StepBy way old (Open n) outcome seen new = IsOpening old n outcome seen new
StepBy way old (Request r now words bytes) outcome seen new =
    IsAnswer way old r (record { now = now; words = words; bytes = bytes.items }) outcome seen new
StepBy way old (Pull r v after) outcome seen new = IsPull old r v after outcome seen new
StepBy way old (Deliver i r) outcome seen new = IsDelivery old i r outcome seen new
StepBy way old (Prune r moment) outcome seen new = IsPruning old r moment outcome seen new
StepBy way old (PruneSome r moment after count) outcome seen new =
    IsSlicing old r moment outcome seen new

-- one step after another, with what each showed its region, if requests go this way
abbrev pub RunBy : Way → State → List Event → List Outcome → List Facts → State → Type 0
RunBy way old [] [] [] new = new ≡ old
RunBy way old (e ∷ es) (o ∷ os) (s ∷ ss) new =
    (mid : State) × StepBy way old e o s mid × RunBy way mid es os ss new
RunBy way old es os ss new = ⊥

-- a step without a device between: the bytes of a request are heard, and its reply is the answer
abbrev pub Step : State → Event → Outcome → Facts → State → Type 0
Step old e o seen new = StepBy in_place old e o seen new

-- one step after another, without a device between
abbrev pub Run : State → List Event → List Outcome → List Facts → State → Type 0
Run old es os ss new = RunBy in_place old es os ss new

-- the state before the event at this index of a run
abbrev pub state_before : (way : Way) (old : State) (es : List Event) (os : List Outcome)
    (ss : List Facts) (new : State) → RunBy way old es os ss new → ℕ → State
state_before way old (e ∷ es) (o ∷ os) (s ∷ ss) new run zero = old
state_before way old (e ∷ es) (o ∷ os) (s ∷ ss) new run (suc i) =
    state_before way run.0 es os ss new run.2 i
state_before way old es os ss new run i = old

-- the number of the region that an event is for
abbrev pub region_of : Event → ℕ
region_of (Open n) = n
region_of (Request r now words bytes) = r
region_of (Pull r v after) = r
region_of (Deliver i r) = r
region_of (Prune r moment) = r
region_of (PruneSome r moment after count) = r

-- what a region has seen: the facts that it made and took in
abbrev pub seen_by : ℕ → List Event → List Facts → Facts
seen_by r [] ss = []
seen_by r (e ∷ es) [] = []
seen_by r (e ∷ es) (s ∷ ss) = (if region_of e == r then s else []) ++ seen_by r es ss
