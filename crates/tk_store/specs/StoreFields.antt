-- What contracts see of a store (own).
--   StoreFields   its slots, and its horizon
--   held_facts    the facts that it holds
--   IsWhole       no dot is skipped
--   IsKept        what a store keeps of its slots and its front
use Rattle.std.specs.Prelude.{◌≡◌, ℕ, false, max, refl}
use Rattle.std.specs.Coded.{Coded, code_by, coded×, coded_ℕ}
use Rattle.std.specs.FinMap as map
use Rattle.tk_handle.specs.declared.dot.Dot.{Dot}
use Rattle.tk_handle.specs.Dot.{coded_dot}
use Rattle.tk_fact.specs.declared.body.Body.{Body}
use Rattle.tk_vector.specs.VersionVector.{Vector}
use Rattle.tk_store.specs.FactSet.{FactSet, IsFactSet}
use Rattle.tk_store.specs.Front.{IsFront}
use Rattle.tk_store.specs.Slots.{Slots, Held, Skipped, held_in, is_skipped, coded_slot}

-- a store: what it knows of each dot, and its horizon, the moment up to which families that are
-- over may be skipped
pub record StoreFields : Type 0 where
  pub slots : Slots
  pub horizon : ℕ

-- a store that knows no dot
abbrev pub empty_store : StoreFields
empty_store = record { slots = map.empty; horizon = 0 }

-- the facts that a store holds
abbrev pub held_facts : StoreFields → FactSet
held_facts P = held_in P.slots

-- no dot is skipped
abbrev pub IsWhole : StoreFields → Type 0
IsWhole P = (d : Dot) → is_skipped P.slots d ≡ false

-- a store with a fact at a dot
abbrev pub with_fact : StoreFields → Dot → Body → StoreFields
with_fact P d b = record { slots = map.insert P.slots d (Held b); horizon = P.horizon }

-- a store with a dot skipped
abbrev pub with_skipped : StoreFields → Dot → StoreFields
with_skipped P d = record { slots = map.insert P.slots d Skipped; horizon = P.horizon }

-- a store with its horizon raised to a moment, if that is later
abbrev pub with_horizon : StoreFields → ℕ → StoreFields
with_horizon P moment = record { slots = P.slots; horizon = max P.horizon moment }

-- each fact that slots hold passes its check, and the vector is the front of the slots
pub record IsKept (S : Slots) (front : Vector) : Type 0 where
  pub sound : IsFactSet (held_in S)
  pub front_is : IsFront S front

-- the code of a store, as a pair
abbrev pub coded_store : Coded StoreFields
coded_store =
    code_by (Slots × ℕ) (coded× (map.code coded_dot coded_slot) coded_ℕ)
    (λ P. (P.slots, P.horizon)) (λ p. record { slots = p.0; horizon = p.1 }) (λ _. refl)
