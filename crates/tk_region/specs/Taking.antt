-- Taking in a bundle: the refusals, in their order, and taking in the items (own).
--   has_unmade    an item is under the region's own number and not made by the region
--   AgreesWith    each item agrees with what is known of its dot
--   raised        a store with its horizon raised to that of a bundle
--   items_taken   a store with the items of a bundle
--   Puts          the outcomes of taking in one item
--   Takes         the horizon is raised, and the items are taken in
--   unread        the refusal of bytes that can't be read
--   TakesIn       the outcomes, by the bundle that the bytes spell
use Rattle.std.specs.Prelude.{◌≡◌, ◌⊎◌, ℕ, ◌+◌, Bool, true, false, ◌&&◌, ◌==◌, nat_le, [], ◌∷◌}
use Rattle.std.specs.Prelude.{take, Option, Some, None, IsSome, Result, Ok, Err}
use Rattle.std.specs.List.{list_any}
use Rattle.std.specs.FinMap as map
use Rattle.tk_handle.specs.declared.dot.Dot.{Dot}
use Rattle.tk_store.specs.SlotJoining.{AllFit}
use Rattle.tk_store.specs.SlotOrder.{SlotAgrees}
use Rattle.tk_store.specs.Slots.{Slot, Slots, with_slots}
use Rattle.tk_store.specs.StoreFields.{StoreFields, with_horizon}
use Rattle.tk_store.specs.declared.store.Added.{Added}
use Rattle.tk_store.specs.declared.store.Added.TheVariants as added
use Rattle.tk_store.specs.declared.store.AddError.{AddError}
use Rattle.tk_store.specs.declared.store.AddError.TheVariants as error
use Rattle.tk_bundle.specs.BundleFields.{BundleFields, Items}
use Rattle.tk_format.specs.declared.error.ReadError.{ReadError}
use Rattle.tk_format.specs.declared.error.ReadError.TheVariants as read
use Rattle.tk_region.specs.declared.take.TakeError.{TakeError}
use Rattle.tk_region.specs.declared.take.TakeError.TheVariants.{Malformed, OwnNumber, Conflict}
use Rattle.tk_region.specs.declared.take.TakeError.TheVariants.{Memory}

-- the dot is under the number of the region, and is its next dot or above
abbrev pub is_unmade : Dot → Dot → Bool
is_unmade next d = (d.region == next.region) && nat_le next.serial d.serial

-- an item of the list, a fact or a mark, is under the number of the region, at its next dot or
-- above
abbrev pub has_unmade : Dot → Items → Bool
has_unmade next items = list_any (λ i. is_unmade next i.0) items

-- each item agrees with what is known of its dot: it is no other fact, and no mark where a fact
-- lasts
abbrev pub AgreesWith : Slots → Items → Type 0
AgreesWith S items = AllFit S items

-- a store with its horizon raised to that of a bundle, if the bundle has one
abbrev pub raised : StoreFields → Option ℕ → StoreFields
raised P None = P
raised P (Some moment) = with_horizon P moment

-- a store with the items: the facts, unless their dots are skipped, and the marks
abbrev pub items_taken : StoreFields → Items → StoreFields
items_taken P items = record { slots = with_slots P.slots items; horizon = P.horizon }

-- the result and the new store, when the fact of an item is added, or its dot is skipped: the item
-- is in and its dot was unknown or known, or the item contradicts what is known, or memory ran out
abbrev pub Puts : StoreFields → Dot × Slot → Result Added AddError → StoreFields → Type 0
Puts P i (Ok added.New) Q = (map.get P.slots i.0 ≡ None) × (Q ≡ items_taken P (i ∷ []))
Puts P i (Ok added.Held) Q = IsSome (map.get P.slots i.0) × (Q ≡ items_taken P (i ∷ []))
Puts P i (Err error.Conflict) Q = ¬ SlotAgrees (map.get P.slots i.0) (Some i.1)
Puts P i (Err error.Memory) Q = Q ≡ P

-- The horizon is raised, and the items are taken in, of which n were at unknown dots. If memory
-- runs out, the first of them are
abbrev pub Takes : StoreFields → BundleFields → Result ℕ TakeError → StoreFields → Type 0
Takes P b (Ok n) Q =
    (Q ≡ items_taken (raised P b.horizon) b.items) × (map.len P.slots + n ≡ map.len Q.slots)
Takes P b (Err Memory) Q = (k : ℕ) × (Q ≡ items_taken (raised P b.horizon) (take k b.items))
Takes P b (Err Malformed) Q = ⊥
Takes P b (Err OwnNumber) Q = ⊥
Takes P b (Err Conflict) Q = ⊥

-- the outcome for a bundle that is not refused
abbrev pub TakesFit : StoreFields → Dot → BundleFields → Result ℕ TakeError → StoreFields → Type 0
TakesFit P next b result Q =
    (has_unmade next b.items ≡ false) × AgreesWith P.slots b.items × Takes P b result Q

-- the refusal of bytes that can't be read as a bundle
abbrev pub unread : ReadError → TakeError
unread read.Malformed = Malformed
unread read.Memory = Memory

-- the outcome of taking in a bundle, or bytes that spell none
abbrev pub TakesIn : StoreFields → Dot → Option BundleFields → Result ℕ TakeError → StoreFields
    → Type 0
-- the bytes spell no bundle
TakesIn P next None (Err Malformed) Q = Q ≡ P
TakesIn P next None (Err Memory) Q = Q ≡ P
TakesIn P next None (Err OwnNumber) Q = ⊥
TakesIn P next None (Err Conflict) Q = ⊥
TakesIn P next None (Ok n) Q = ⊥
-- an item is under the region's own number and not made by the region
TakesIn P next (Some b) (Err OwnNumber) Q = (has_unmade next b.items ≡ true) × (Q ≡ P)
-- an item contradicts what is known of its dot
TakesIn P next (Some b) (Err Conflict) Q =
    (has_unmade next b.items ≡ false) × (¬ AgreesWith P.slots b.items) × (Q ≡ P)
-- a bundle that is not refused
TakesIn P next (Some b) (Err Malformed) Q = ⊥
TakesIn P next (Some b) (Err Memory) Q = (Q ≡ P) ⊎ TakesFit P next b (Err Memory) Q
TakesIn P next (Some b) (Ok n) Q = TakesFit P next b (Ok n) Q
