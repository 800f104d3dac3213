-- Joining slots by their entries, one after another (own): the invariants of three loops.
--   AllFit     each slot of a list agrees with what is known of its dot
--   AllBelow   each slot of a list is below what is known of its dot
--   Compared   some entries are still to be compared
--   Joins      some entries are still to be joined
--   Sought     some entries are still to be looked for
use Rattle.std.specs.Prelude.{◌≡◌, List, [], ◌∷◌, Some, None}
use Rattle.std.specs.FinMap as map
use Rattle.tk_handle.specs.declared.dot.Dot.{Dot}
use Rattle.tk_fact.specs.Check.{refusal_of}
use Rattle.tk_store.specs.FactSet.{AllIn}
use Rattle.tk_store.specs.Slots.{Slot, Slots, Held, Skipped, with_slots}
use Rattle.tk_store.specs.SlotOrder.{SlotBelow, SlotsBelow, SlotAgrees, SlotsAgree}

-- the fact of a slot, if it holds one, passes its check
abbrev pub Passes : Slot → Type 0
Passes (Held b) = refusal_of b ≡ None
Passes Skipped = Unit {0}

-- each slot of the list agrees with what S knows of its dot
abbrev pub AllFit : Slots → List (Dot × Slot) → Type 0
AllFit S [] = Unit {0}
AllFit S (e ∷ es) = SlotAgrees (map.get S e.0) (Some e.1) × AllFit S es

-- each slot of the list is below what S knows of its dot
abbrev pub AllBelow : Slots → List (Dot × Slot) → Type 0
AllBelow S [] = Unit {0}
AllBelow S (e ∷ es) = SlotBelow (Some e.1) (map.get S e.0) × AllBelow S es

-- the entries `rest` of T are still to be compared with S
pub record Compared (S T : Slots) (rest : List (Dot × Slot)) : Type 0 where
  pub left : AllIn T rest
  pub fit : AllFit S rest → AllFit S (map.entries T)

-- the entries `rest` of T are still to be joined to N, which was S
pub record Joins (S T N : Slots) (rest : List (Dot × Slot)) : Type 0 where
  pub left : AllIn T rest
  pub agree : SlotsAgree N T
  pub above : SlotsBelow S N
  pub below : SlotsBelow N (with_slots S (map.entries T))
  pub all : (R : Slots) → SlotsBelow N R → AllBelow R rest → AllBelow R (map.entries T)

-- the entries `rest` of T are still to be looked for in S
pub record Sought (S T : Slots) (rest : List (Dot × Slot)) : Type 0 where
  pub left : AllIn T rest
  pub all : AllBelow S rest → AllBelow S (map.entries T)
