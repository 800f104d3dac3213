-- What a store knows of a dot (own): a fact that it holds, or the mark that it skipped one.
--   Slot                   what is known of a dot
--   Slots                  the slots by their dots
--   held_slot, held_in     the fact of a slot, and all facts that slots hold
--   is_skipped             a dot is skipped
--   joined_slot            the slot that results from joining a slot to what is known
use Rattle.std.specs.Prelude.{Bool, true, false, List, [], ◌∷◌, Option, Some, None, refl, ◌≡◌}
use Rattle.std.specs.Coded.{Coded, code_by, coded_option}
use Rattle.std.specs.FinMap as map
use Rattle.tk_handle.specs.declared.dot.Dot.{Dot}
use Rattle.tk_handle.specs.Dot.{dot_cmp}
use Rattle.tk_fact.specs.declared.body.Body.{Body}
use Rattle.tk_fact.specs.contracts.body.Body.{the_row}
use Rattle.tk_store.specs.FactSet.{FactSet, Facts}

-- what is known of a dot: the body of a fact that is held, or the mark that a fact was skipped
pub data Slot : Type 0 where
  Held : Body → Slot
  Skipped : Slot

-- the slots by their dots
abbrev pub Slots : Type 0
Slots = map.FinMap dot_cmp Slot

-- the body that a slot holds
abbrev pub held_slot : Option Slot → Option Body
held_slot None = None
held_slot (Some (Held b)) = Some b
held_slot (Some Skipped) = None

-- a slot is the mark of a skipped fact
abbrev pub is_skipped_slot : Option Slot → Bool
is_skipped_slot None = false
is_skipped_slot (Some (Held b)) = false
is_skipped_slot (Some Skipped) = true

-- the dot is skipped
abbrev pub is_skipped : Slots → Dot → Bool
is_skipped S d = is_skipped_slot (map.get S d)

-- the fact of a slot, if it holds one, in front of a list
abbrev pub held_entry : Dot → Slot → Facts → Facts
held_entry d (Held b) fs = (d, b) ∷ fs
held_entry d Skipped fs = fs

-- the facts among some entries
abbrev pub held_entries : List (Dot × Slot) → Facts
held_entries [] = []
held_entries (e ∷ es) = held_entry e.0 e.1 (held_entries es)

-- the facts that slots hold
abbrev pub held_in : Slots → FactSet
held_in S = map.from_sorted (held_entries (map.entries S))

-- the slots without the fact at the dot; a mark stays
abbrev pub without_fact : Slots → Dot → Option Slot → Slots
without_fact S d (Some Skipped) = S
without_fact S d other = map.remove S d

-- the slot that results from joining a slot to what is known of its dot: a mark wins over a fact
abbrev pub joined_slot : Option Slot → Slot → Slot
joined_slot None s = s
joined_slot (Some Skipped) s = Skipped
joined_slot (Some (Held b)) Skipped = Skipped
joined_slot (Some (Held b)) (Held c) = Held b

-- slots with those of a list joined to them, in order
abbrev pub with_slots : Slots → List (Dot × Slot) → Slots
with_slots S [] = S
with_slots S (e ∷ es) = with_slots (map.insert S e.0 (joined_slot (map.get S e.0) e.1)) es

-- a slot as the body that it holds, if any
abbrev slot_body : Slot → Option Body
slot_body (Held b) = Some b
slot_body Skipped = None

-- the slot that holds a body, or the mark without one
abbrev body_slot : Option Body → Slot
body_slot (Some b) = Held b
body_slot None = Skipped

-- nothing of a slot is lost by `slot_body`
pub slot_again : (s : Slot) → body_slot (slot_body s) ≡ s
slot_again (Held b) = refl
slot_again Skipped = refl

-- the code of a slot, as the body that it holds, if any
abbrev pub coded_slot : Coded Slot
coded_slot = code_by (Option Body) (coded_option (the_row.coded)) slot_body body_slot slot_again
