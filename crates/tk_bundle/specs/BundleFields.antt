-- What contracts see of a bundle (own).
--   Items          what a bundle has: dots with facts, or with the marks of skipped facts
--   BundleFields   a bundle's horizon, if it has one, whether it has runs, and its items
--   of_facts       the bundle of facts alone
--   is_mark        an item is the mark of a skipped fact
--   fact_of        the fact of an item, if it has one
--   entry_of       an item of the code as contracts see it
use Rattle.std.specs.Prelude.{ℕ, Bool, false, List, map, Option, Some, None}
use Rattle.std.specs.Option.{option_map}
use Rattle.tk_handle.specs.declared.dot.Dot.{Dot}
use Rattle.tk_fact.specs.declared.body.Body.{Body}
use Rattle.tk_store.specs.FactSet.{Facts}
use Rattle.tk_store.specs.Slots.{Slot, Held, Skipped, held_slot, is_skipped_slot}
use Rattle.tk_store.specs.WholeStores.{as_slot}
use Rattle.tk_bundle.specs.declared.item.Entry.{Entry}
use Rattle.tk_bundle.specs.declared.item.Entry.TheVariants as entry

-- what a bundle has: each dot with its fact, or with the mark that a fact was skipped
abbrev pub Items : Type 0
Items = List (Dot × Slot)

-- the horizon of a bundle with a mark, whether marks that follow one another are spelled as runs,
-- and the items
pub record BundleFields : Type 0 where
  pub horizon : Option ℕ
  pub runs : Bool
  pub items : Items

-- the bundle of facts alone
abbrev pub of_facts : Facts → BundleFields
of_facts fs = record { horizon = None; runs = false; items = map as_slot fs }

-- the item is the mark of a skipped fact
abbrev pub is_mark : Dot × Slot → Bool
is_mark i = is_skipped_slot (Some i.1)

-- the fact of an item, if it has one
abbrev pub fact_of : Dot × Slot → Option (Dot × Body)
fact_of i = option_map (λ body. (i.0, body)) (held_slot (Some i.1))

-- an item of the code as contracts see it
abbrev pub entry_of : Entry → Dot × Slot
entry_of (entry.Fact f) = (f.0, Held f.1)
entry_of (entry.Skipped d) = (d, Skipped)
