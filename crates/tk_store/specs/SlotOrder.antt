-- The order of stores (own): what one knows, the other knows too, or has skipped.
--   SlotBelow, SlotsBelow, StoreBelow   the order of slots, of all slots, and of stores
--   SlotAgrees, StoresAgree             two that can be joined
--   joined_store                        the join of two stores that agree
use Rattle.std.specs.Prelude.{◌≡◌, ◌≤◌, true, max, Option, Some, None}
use Rattle.std.specs.FinMap as map
use Rattle.tk_handle.specs.declared.dot.Dot.{Dot}
use Rattle.tk_fact.specs.Keeping.{is_passing}
use Rattle.tk_store.specs.Slots.{Slot, Slots, Held, Skipped, with_slots}
use Rattle.tk_store.specs.StoreFields.{StoreFields}

-- what is known of a dot is below what the other knows: the same fact, or a mark where the fact may
-- be skipped
abbrev pub SlotBelow : Option Slot → Option Slot → Type 0
SlotBelow None s = Unit {0}
SlotBelow (Some x) None = ⊥
SlotBelow (Some (Held b)) (Some (Held c)) = b ≡ c
SlotBelow (Some (Held b)) (Some Skipped) = is_passing b ≡ true
SlotBelow (Some Skipped) (Some (Held b)) = ⊥
SlotBelow (Some Skipped) (Some Skipped) = Unit {0}

-- what S knows of each dot is below what T knows of it
abbrev pub SlotsBelow : Slots → Slots → Type 0
SlotsBelow S T = (d : Dot) → SlotBelow (map.get S d) (map.get T d)

-- what P knows of each dot is below what Q knows, and the horizon of P is not later
pub record StoreBelow (P Q : StoreFields) : Type 0 where
  pub slots : SlotsBelow P.slots Q.slots
  pub horizon : P.horizon ≤ Q.horizon

-- what is known of a dot agrees: no two bodies, and no fact that lasts beside a mark
abbrev pub SlotAgrees : Option Slot → Option Slot → Type 0
SlotAgrees None s = Unit {0}
SlotAgrees (Some x) None = Unit {0}
SlotAgrees (Some (Held b)) (Some (Held c)) = b ≡ c
SlotAgrees (Some (Held b)) (Some Skipped) = is_passing b ≡ true
SlotAgrees (Some Skipped) (Some (Held b)) = is_passing b ≡ true
SlotAgrees (Some Skipped) (Some Skipped) = Unit {0}

-- what S and T know of each dot agrees
abbrev pub SlotsAgree : Slots → Slots → Type 0
SlotsAgree S T = (d : Dot) → SlotAgrees (map.get S d) (map.get T d)

-- two stores can be joined
abbrev pub StoresAgree : StoreFields → StoreFields → Type 0
StoresAgree P Q = SlotsAgree P.slots Q.slots

-- the join of two stores: all that either knows, and the later horizon
abbrev pub joined_store : StoreFields → StoreFields → StoreFields
joined_store P Q = record {
  slots = with_slots P.slots (map.entries Q.slots);
  horizon = max P.horizon Q.horizon;
}
