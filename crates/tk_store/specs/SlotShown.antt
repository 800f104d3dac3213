-- What a look-up of a slot returns (own).
--   shown_slot   a `SlotRef` of the code as contracts see it
--   IsShown      what is returned is the slot at a dot
--   WalksOn      one step of a walk over slots
use Rattle.std.specs.Prelude.{◌≡◌, ◌<◌, [], ◌∷◌, length, Option, Some, None}
use Rattle.tk_handle.specs.declared.dot.Dot.{Dot}
use Rattle.tk_store.specs.Slots.{Slot, Slots, Held, Skipped}
use Rattle.tk_store.specs.Walk.{above}
use Rattle.tk_store.specs.declared.slot.SlotRef.{SlotRef}
use Rattle.tk_store.specs.declared.slot.SlotRef.TheVariants as ref

-- a `SlotRef` of the code as contracts see it
abbrev pub shown_slot : SlotRef → Slot
shown_slot (ref.Held f) = Held f.now.1
shown_slot ref.Skipped = Skipped

-- the fact that is returned, if one is, has the dot d
abbrev pub HasDot : Dot → SlotRef → Type 0
HasDot d (ref.Held f) = f.now.0 ≡ d
HasDot d ref.Skipped = Unit {0}

-- what is returned for the dot d is the slot there, with the fact's own dot
abbrev pub IsShown : Dot → Option SlotRef → Option Slot → Type 0
IsShown d None s = s ≡ None
IsShown d (Some r) s = (s ≡ Some (shown_slot r)) × HasDot d r

-- one step of a walk over slots: the first slot above a dot, after which fewer are to come, or
-- nothing if none is above
abbrev pub WalksOn : Slots → Option Dot → Option (Dot × SlotRef) → Type 0
WalksOn S after None = above S after ≡ []
WalksOn S after (Some p) =
    (above S after ≡ (p.0, shown_slot p.1) ∷ above S (Some p.0)) × HasDot p.0 p.1
    × (length (above S (Some p.0)) < length (above S after))
