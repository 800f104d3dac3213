-- The laws of standing for (own): each is a clause of a function of `laws`. U is the set of all
-- facts made, and the store P stands for the facts F.
--   StatusStands    from the horizon on, a status by the store is answered as that by the facts
--   DecisionStands  from the horizon on, a request is decided by the store as by the facts, but
--                   for revocations of tokens that the facts don't have
--   RegionStands    from the horizon on, a region prepares what the facts determine
--   PruneStands     a store that was pruned stands for the same facts
--   GoesSoundly     a fact that may go, by what the store knows, may be skipped
--   SliceStands     a store of which a slice was pruned stands for the same facts
--   Progresses      as long as a fact of a family that is over is held, some fact may go
--   MoreStands      a store stands for the same facts when more were made
--   MarkStands, FactStands, DropStands
--                   what a store stands for once a dot was skipped, and once a fact came
--   SoundStays      all facts made stay sound with one more
--   MadeMeets       a fact that a region makes ends with its family, and names what was minted
--                   for it, or a link
use Rattle.std.specs.Prelude.{◌≡◌, ◌≢◌, ◌≤◌, ℕ, true, List, Option, Some, IfSome}
use Rattle.std.specs.FinMap as map
use Rattle.tk_handle.specs.declared.dot.Dot.{Dot}
use Rattle.tk_handle.specs.declared.handle.Handle.{Handle}
use Rattle.tk_fact.specs.declared.body.Body.{Body}
use Rattle.tk_store.specs.FactSet.{FactSet, IsSubset}
use Rattle.tk_store.specs.Slots.{is_skipped}
use Rattle.tk_store.specs.StoreFields.{StoreFields, held_facts, with_fact, with_skipped}
use Rattle.tk_store.specs.StoreFields.{with_horizon}
use Rattle.tk_ledger.specs.Retention.{MaySkip, Prunes}
use Rattle.tk_ledger.specs.Slices.{Goes, PrunesSome}
use Rattle.tk_ledger.specs.Status.{status_here, status_in}
use Rattle.tk_ledger.specs.Alike.{AnsweredAlike}
use Rattle.tk_ledger.specs.declared.slices.Slice.{Slice}
use Rattle.tk_message.specs.RequestFields.{RequestFields}
use Rattle.tk_message.specs.declared.decision.Decision.{Decision}
use Rattle.tk_message.specs.declared.place.Place.{Place}
use Rattle.tk_region.specs.Decision.{decision_of}
use Rattle.tk_region.specs.RegionFields.{RegionFields, place_in}
use Rattle.tk_region.specs.Step.{prepared_by, prepared_of}
use Rattle.tk_retention.specs.Decides.{DecidesFor}
use Rattle.tk_retention.specs.StandsFor.{StandsFor, AreSound, AddsOne, MeetsFamily}

-- from the horizon on, every endpoint answers a handle of its status by the store as it answers one
-- of its status by the facts
abbrev pub StatusStands : Type 0
StatusStands = (P : StoreFields) (U F : FactSet) → StandsFor P U F → AreSound U → (now : ℕ)
    → P.horizon ≤ now → (h : Handle)
    → AnsweredAlike now h (status_here P now h) (status_in F now h)

-- from the horizon on, a request is decided by the store as by the facts: the reply and the fact
-- that is made are equal. A revocation of a token that the facts don't have may be decided as if it
-- was the first
abbrev pub DecisionStands : Type 0
DecisionStands = (P : StoreFields) (U F : FactSet) → StandsFor P U F → AreSound U
    → (place : Place) (now : ℕ) → P.horizon ≤ now → (words : List ℕ) (request : RequestFields)
    → DecidesFor F place now words request (decision_of P place now words request)

-- from the horizon on, a region prepares for a request what the facts for which its store stands
-- determine: the reply, the fact that is made, and its record. A revocation of a token that the
-- facts don't have may be decided as if it was the first
abbrev pub RegionStands : Type 0
RegionStands = (r : RegionFields) (U F : FactSet) → StandsFor r.facts U F → AreSound U
    → (now : ℕ) → r.facts.horizon ≤ now → (words : List ℕ) (request : RequestFields)
    → (d : Decision) × DecidesFor F (place_in r) now words request d
    × (prepared_of r now words request ≡ prepared_by r.settings.cap (place_in r) d)

-- a store that was pruned stands for the facts that it stood for
abbrev pub PruneStands : Type 0
PruneStands = (old new : StoreFields) (moment n : ℕ) (U F : FactSet) → Prunes old moment n new
    → StandsFor old U F → StandsFor new U F

-- a fact that may go by what the store knows may be skipped by all facts made
abbrev pub GoesSoundly : Type 0
GoesSoundly = (P : StoreFields) (U F : FactSet) → StandsFor P U F → AreSound U → (d : Dot)
    → Goes P d → MaySkip (map.get U) P.horizon d

-- a store of which a slice was pruned stands for the facts that it stood for
abbrev pub SliceStands : Type 0
SliceStands = (old new : StoreFields) (moment : ℕ) (after : Option Dot) (count : ℕ) (slice : Slice)
    (U F : FactSet) → PrunesSome old moment after count slice new → StandsFor old U F → AreSound U
    → StandsFor new U F

-- as long as a fact that may be skipped by all facts for which the store stands is not skipped,
-- some fact may go by what the store knows: none is half skipped for good
abbrev pub Progresses : Type 0
Progresses = (P : StoreFields) (U F : FactSet) → StandsFor P U F → (d : Dot)
    → MaySkip (map.get F) P.horizon d → is_skipped P.slots d ≢ true → (e : Dot) × Goes P e

-- a store stands for the facts that it stood for when more facts were made
abbrev pub MoreStands : Type 0
MoreStands = (P : StoreFields) (U V F : FactSet) → IsSubset U V → StandsFor P U F
    → StandsFor P V F

-- G has the fact of U at the dot d, and is F elsewhere
pub record GainsMade (U F : FactSet) (d : Dot) (G : FactSet) : Type 0 where
  pub here : map.get G d ≡ map.get U d
  pub others : (q : Dot) → q ≢ d → map.get G q ≡ map.get F q

-- a store that skips a dot, and raises its horizon to one at which that may be skipped, stands for
-- the fact there too
abbrev pub MarkStands : Type 0
MarkStands = (P : StoreFields) (U F G : FactSet) (horizon : ℕ) (d : Dot)
    → MaySkip (map.get U) horizon d → GainsMade U F d G → StandsFor P U F
    → StandsFor (with_skipped (with_horizon P horizon) d) U G

-- a store with one more fact that was made stands for that fact too
abbrev pub FactStands : Type 0
FactStands = (P : StoreFields) (U F G : FactSet) (d : Dot) (b : Body) → map.get U d ≡ Some b
    → GainsMade U F d G → StandsFor P U F → StandsFor (with_fact P d b) U G

-- a store that drops a fact at a skipped dot stands for that fact too
abbrev pub DropStands : Type 0
DropStands = (P : StoreFields) (U F G : FactSet) (d : Dot) → is_skipped P.slots d ≡ true
    → GainsMade U F d G → StandsFor P U F → StandsFor P U G

-- all facts made stay sound with one more whose tokens end with their family, and which names what
-- was minted for it, or a link if it refreshed an access token
abbrev pub SoundStays : Type 0
SoundStays = (U V : FactSet) (d : Dot) (b : Body) → AddsOne U d b V → AreSound U
    → MeetsFamily U d V → AreSound V

-- The fact that a region makes for a request, if it makes one, ends with its family, and names what
-- was minted for it, or a link if it refreshed an access token. U has all facts that the region
-- holds, and V is U with the new one.
abbrev pub MadeMeets : Type 0
MadeMeets =
    (r : RegionFields) (U V : FactSet) (now : ℕ) (words : List ℕ) (request : RequestFields)
    → IsSubset (held_facts r.facts) U
    → IfSome (prepared_of r now words request).fact
    (λ f. AddsOne U f.0 f.1 V → MeetsFamily U f.0 V)
