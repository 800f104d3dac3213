-- Pages: the first slots of a store, above a cursor, that a vector does not cover (own).
--   PageFields   the bundle of a page, the dot of its last item, and whether more follow
--   bundle_of    the bundle of items of a store
--   page_of      the page of a store for a vector and a cursor
--   IsPageOf     a page in bytes has these parts
--   items_at     what a store knows of given dots
--   IsPageAt     a page in bytes has what a store knows of given dots
use Rattle.std.specs.Prelude.{◌≡◌, ℕ, ◌-◌, Bool, false, nat_lt, List, ◌∷◌, ◌++◌, length, slice_get}
use Rattle.std.specs.Prelude.{Option}
use Rattle.std.specs.Prelude.{Some, None, if◌then◌else◌}
use Rattle.std.specs.Int.{w16}
use Rattle.std.specs.List.{filter_map, flat_map, list_any}
use Rattle.std.specs.Option.{option_map}
use Rattle.std.specs.FinMap as sets
use Rattle.tk_format.specs.Format.{number}
use Rattle.tk_handle.specs.declared.dot.Dot.{Dot}
use Rattle.tk_vector.specs.VersionVector.{Vector}
use Rattle.tk_store.specs.Beyond.{beyond}
use Rattle.tk_store.specs.Paging.{page, last_dot}
use Rattle.tk_store.specs.Slots.{Slot, Slots}
use Rattle.tk_store.specs.StoreFields.{StoreFields}
use Rattle.tk_bundle.specs.BundleFields.{BundleFields, Items, is_mark}
use Rattle.tk_bundle.specs.Items.{item}
use Rattle.tk_bundle.specs.Versions.{version_of}
use Rattle.tk_bundle.specs.Bundle.{magic, max_items, bundle_bytes, horizon_bytes}
use Rattle.tk_bundle.specs.declared.page.Page.{Page}

-- the bundle of a page, the dot of its last item, and whether more follow
pub record PageFields : Type 0 where
  pub bundle : BundleFields
  pub last : Option Dot
  pub more : Bool

-- the last of the dots, if there is one
abbrev pub last_of : List Dot → Option Dot
last_of dots = slice_get dots (length dots - 1)

-- the horizon, if there are marks
abbrev pub horizon_if : Bool → ℕ → Option ℕ
horizon_if marked horizon = if marked then Some horizon else None

-- the sender's horizon, if a mark is among the items
abbrev pub horizon_with : ℕ → Items → Option ℕ
horizon_with horizon items = horizon_if (list_any is_mark items) horizon

-- the bundle of items of a store with this horizon
abbrev pub bundle_of : ℕ → Items → BundleFields
bundle_of horizon items =
    record { horizon = horizon_with horizon items; runs = false; items = items }

-- the first slots above the cursor `after` that the vector does not cover, at most `limit`
abbrev pub page_within : ℕ → StoreFields → Vector → Option Dot → PageFields
page_within limit P v after = record {
  bundle = bundle_of P.horizon (page limit P.slots v after);
  last = last_dot (page limit P.slots v after);
  more = nat_lt limit (length (beyond P.slots v after));
}

-- the page of a store for a vector and a cursor, of at most 128 items
abbrev pub page_of : StoreFields → Vector → Option Dot → PageFields
page_of P v after = page_within max_items P v after

-- the page in bytes: the bundle, the number of its items, the dot of the last, and whether more
-- follow
pub record IsPageOf (page : Page) (fields : PageFields) : Type 0 where
  pub bytes : page.bytes.items ≡ bundle_bytes fields.bundle
  pub count : page.count ≡ length fields.bundle.items
  pub last : page.last ≡ fields.last
  pub more : page.more ≡ fields.more

-- what is known of the dot, if anything is
abbrev pub item_at : Slots → Dot → Option (Dot × Slot)
item_at S d = option_map (λ slot. (d, slot)) (sets.get S d)

-- what is known of the dots, without those of which nothing is
abbrev pub items_at : Slots → List Dot → Items
items_at S dots = filter_map (item_at S) dots

-- the page in bytes: what a store knows of the dots, behind the magic, the version, the horizon if
-- a mark is inside, and the number of the dots
pub record IsPageAt (page : Page) (P : StoreFields) (dots : List Dot) (follows : Bool)
    : Type 0 where
  pub bytes : page.bytes.items ≡ magic
      ++ (version_of false (items_at P.slots dots) ∷ horizon_bytes
      (horizon_with P.horizon (items_at P.slots dots))
      ++ ((number w16).spell (length dots) ++ flat_map item.spell (items_at P.slots dots)))
  pub count : page.count ≡ length dots
  pub last : page.last ≡ last_of dots
  pub more : page.more ≡ follows
