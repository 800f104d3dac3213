-- How slots are kept in a map by dot (own).
--   KeptMap    facts, each in memory of its own, and marks, by their dots
--   Shows      a slot that is returned is what is kept
--   slots_of   the slots that they are
--   IsTable    each fact is at its own dot, and the number of the facts is known
--   PassesOn   one step of a walk over facts, which passes over marks
use Rattle.std.specs.Prelude.{◌≡◌, ◌<◌, ℕ, [], length, map, slice_get, Option, Some, None}
use Rattle.std.proofs.Common.{Box, Global}
use Rattle.std.specs.FinMap as sets
use Rattle.tk_handle.specs.declared.dot.Dot.{Dot}
use Rattle.tk_dots.specs.Marks.{MarkedMap}
use Rattle.tk_fact.specs.declared.body.Body.{Body}
use Rattle.tk_store.specs.Slots.{Slot, Slots, Held, Skipped, held_in}
use Rattle.tk_store.specs.declared.slot.SlotRef.{SlotRef}
use Rattle.tk_store.specs.declared.slot.SlotRef.TheVariants as ref
use Rattle.tk_store.specs.Walk.{above}

-- a fact in memory of its own
abbrev pub Boxed : Type 0
Boxed = Box (Dot × Body) Global

-- the slot that is kept: a fact, or a mark
abbrev pub slot_of : Option Boxed → Slot
slot_of (Some b) = Held b.value.1
slot_of None = Skipped

-- the slot that is returned is what is kept
abbrev pub Shows : SlotRef → Option Boxed → Type 0
Shows (ref.Held f) (Some b) = f.now ≡ b.value
Shows (ref.Held f) None = ⊥
Shows ref.Skipped (Some b) = ⊥
Shows ref.Skipped None = Unit {0}

-- facts, each in memory of its own, and marks, by their dots
abbrev pub KeptMap : Type 0
KeptMap = MarkedMap Boxed

-- the slots by their dots
abbrev pub slots_of : KeptMap → Slots
slots_of m = sets.from_sorted (map (λ e. (e.0, slot_of e.1)) (sets.entries m))

-- each fact is at its own dot
abbrev pub AreHome : KeptMap → Type 0
AreHome m = (d : Dot) (b : Boxed) → sets.get m d ≡ Some (Some b) → b.value.0 ≡ d

-- each fact is at its own dot, and `held` is the number of facts
pub record IsTable (m : KeptMap) (held : ℕ) : Type 0 where
  pub home : AreHome m
  pub counted : held ≡ sets.len (held_in (slots_of m))

-- the fact at the dot is the first above, or none is between the two
abbrev pub IsStep : Slots → Option Dot → Dot → SlotRef → Type 0
IsStep S after d (ref.Held f) = slice_get (above (held_in S) after) 0 ≡ Some f.now
IsStep S after d ref.Skipped = above (held_in S) after ≡ above (held_in S) (Some d)

-- a step of a walk over facts: to a dot above, with no fact in between, after which fewer are to
-- come; or nothing, if no fact is above
abbrev pub PassesOn : Slots → Option Dot → Option (Dot × SlotRef) → Type 0
PassesOn S after None = above (held_in S) after ≡ []
PassesOn S after (Some p) =
    IsStep S after p.0 p.1 × (length (above S (Some p.0)) < length (above S after))
