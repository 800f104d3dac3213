-- The outcomes of skipping a dot (own).
--   Skips   the result and the new store, when a dot is skipped
use Rattle.std.specs.Prelude.{◌≡◌, true, false, Option, Result, Ok, Err, Some, None}
use Rattle.std.specs.FinMap as map
use Rattle.tk_handle.specs.declared.dot.Dot.{Dot}
use Rattle.tk_fact.specs.Keeping.{is_passing}
use Rattle.tk_store.specs.Slots.{Slot, Held, Skipped}
use Rattle.tk_store.specs.StoreFields.{StoreFields, with_skipped}
use Rattle.tk_store.specs.declared.store.Added.{Added}
use Rattle.tk_store.specs.declared.store.Added.TheVariants as added
use Rattle.tk_store.specs.declared.store.AddError.{AddError}
use Rattle.tk_store.specs.declared.store.AddError.TheVariants.{Conflict, Memory}

-- the dot is known, and has no fact that lasts
abbrev pub MayGo : Option Slot → Type 0
MayGo None = ⊥
MayGo (Some (Held b)) = is_passing b ≡ true
MayGo (Some Skipped) = Unit {0}

-- the slot holds a fact that lasts
abbrev pub Lasts : Option Slot → Type 0
Lasts None = ⊥
Lasts (Some (Held b)) = is_passing b ≡ false
Lasts (Some Skipped) = ⊥

-- the result and the new store, when the dot d of the store old is skipped
abbrev pub Skips : StoreFields → Dot → Result Added AddError → StoreFields → Type 0
-- new: the dot was unknown, and is now skipped
Skips old d (Ok added.New) new = (map.get old.slots d ≡ None) × (new ≡ with_skipped old d)
-- held: the dot was known, and is skipped now; its fact, if it had one, is gone
Skips old d (Ok added.Held) new = MayGo (map.get old.slots d) × (new ≡ with_skipped old d)
-- conflict: a fact that lasts is at the dot
Skips old d (Err Conflict) new = Lasts (map.get old.slots d) × (new ≡ old)
-- out of memory: the dot was unknown, and the store is unchanged
Skips old d (Err Memory) new = (map.get old.slots d ≡ None) × (new ≡ old)
