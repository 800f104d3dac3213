-- Stores in which nothing is skipped (own).
--   WholeAgree    two stores below a store in which nothing is skipped agree
--   whole_store   the store of a set of facts
use Rattle.std.specs.Prelude.{map as map_list}
use Rattle.std.specs.FinMap as map
use Rattle.tk_handle.specs.declared.dot.Dot.{Dot}
use Rattle.tk_fact.specs.declared.body.Body.{Body}
use Rattle.tk_store.specs.FactSet.{FactSet}
use Rattle.tk_store.specs.SlotOrder.{StoreBelow, StoresAgree}
use Rattle.tk_store.specs.Slots.{Slot, Held}
use Rattle.tk_store.specs.StoreFields.{StoreFields, IsWhole}

-- two stores below one in which nothing is skipped agree
abbrev pub WholeAgree : Type 0
WholeAgree =
    (P Q R : StoreFields) → IsWhole R → StoreBelow P R → StoreBelow Q R → StoresAgree P Q

-- a fact as a slot
abbrev pub as_slot : Dot × Body → Dot × Slot
as_slot f = (f.0, Held f.1)

-- the store that holds a set of facts, skips nothing, and has the horizon 0
abbrev pub whole_store : FactSet → StoreFields
whole_store F =
    record { slots = map.from_sorted (map_list as_slot (map.entries F)); horizon = 0 }
