-- What a bundle changes of a store, and the record of that in a log (own).
--   is_later       a bundle's horizon is later than a store's
--   changes_slot   an item changes what is known of its dot
--   changes        a bundle changes a store
--   counts         an item isn't dropped: it is a mark, or its dot isn't skipped
--   news_of        a bundle without the facts that are dropped
--   record_of      the record of a bundle, if the bundle changes the store
use Rattle.std.specs.Prelude.{ℕ, Bool, true, false, ◌||◌, not, nat_lt, List, filter, Option, Some}
use Rattle.std.specs.Prelude.{None, if◌then◌else◌}
use Rattle.std.specs.List.{list_any}
use Rattle.std.specs.FinMap as map
use Rattle.tk_handle.specs.declared.dot.Dot.{Dot}
use Rattle.tk_store.specs.Slots.{Slot, Slots, Held, Skipped, is_skipped}
use Rattle.tk_store.specs.StoreFields.{StoreFields}
use Rattle.tk_bundle.specs.BundleFields.{BundleFields, Items, is_mark}
use Rattle.tk_bundle.specs.Bundle.{bundle_bytes}

-- the bundle's horizon, if it has one, is later than the store's
abbrev pub is_later : ℕ → Option ℕ → Bool
is_later horizon None = false
is_later horizon (Some moment) = nat_lt horizon moment

-- the slot of an item changes what is known of its dot: nothing is known, or a fact is held and the
-- item is a mark
abbrev pub changes_slot : Option Slot → Slot → Bool
changes_slot None s = true
changes_slot (Some Skipped) s = false
changes_slot (Some (Held b)) (Held c) = false
changes_slot (Some (Held b)) Skipped = true

-- some item changes what is known of its dot
abbrev pub changes_slots : Slots → Items → Bool
changes_slots S items = list_any (λ i. changes_slot (map.get S i.0) i.1) items

-- the bundle raises the horizon, or some item changes what is known of its dot
abbrev pub changes : StoreFields → BundleFields → Bool
changes P b = is_later P.horizon b.horizon || changes_slots P.slots b.items

-- the item isn't dropped when it is taken in: it is a mark, or its dot isn't skipped
abbrev pub counts : Slots → Dot × Slot → Bool
counts S i = is_mark i || not (is_skipped S i.0)

-- the bundle without the facts at skipped dots
abbrev pub news_of : Slots → BundleFields → BundleFields
news_of S b =
    record { horizon = b.horizon; runs = b.runs; items = filter (counts S) b.items }

-- the record of a bundle in a log: the bytes of what isn't dropped, if the bundle changes the store
abbrev pub record_of : StoreFields → BundleFields → Option (List ℕ)
record_of P b = if changes P b then Some (bundle_bytes (news_of P.slots b)) else None
