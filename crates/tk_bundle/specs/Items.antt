-- The bytes of a bundle's items (own): each is behind its length.
--   dot_size        the number of bytes of a dot, the length of a mark
--   item_bytes      the bytes of an item
--   item_in         the item that all of some bytes spell
--   behind_length   the format of a value behind the length of its bytes
--   item            the format of an item behind its length
--   GetsItem        what a reader of an item may return
use Rattle.std.specs.Prelude.{◌≡◌, ℕ, true, ◌==◌, nat_le, List, length, Option, Some, None}
use Rattle.std.specs.Prelude.{Result, Ok, Err, if◌then◌else◌}
use Rattle.std.specs.Option.{option_map}
use Rattle.tk_format.specs.declared.error.ReadError.{ReadError}
use Rattle.tk_format.specs.declared.error.ReadError.TheVariants.{Malformed, Memory}
use Rattle.tk_format.specs.Format.{◌>>=◌, Format, only, text, whole}
use Rattle.tk_handle.specs.declared.dot.Dot.{Dot}
use Rattle.tk_handle.specs.DotBytes.{dot_field}
use Rattle.tk_fact.specs.FactBytes.{fact, max_bytes}
use Rattle.tk_store.specs.Slots.{Slot, Held, Skipped}
use Rattle.tk_store.specs.WholeStores.{as_slot}
use Rattle.tk_bundle.specs.BundleFields.{entry_of}
use Rattle.tk_bundle.specs.declared.item.Entry.{Entry}

-- the number of bytes of a dot: two for the region, eight for the serial
abbrev pub dot_size : ℕ
dot_size = 10

-- the bytes of an item: those of its fact; of a mark, those of the dot
abbrev pub item_bytes : Dot × Slot → List ℕ
item_bytes (d, Held b) = fact.spell (d, b)
item_bytes (d, Skipped) = dot_field.spell d

-- the item has bytes: its fact passes its check; of a mark, its dot is in range
abbrev pub HasBytes : Dot × Slot → Type 0
HasBytes (d, Held b) = fact.Fits (d, b)
HasBytes (d, Skipped) = dot_field.Fits d

-- the mark of a dot
abbrev pub mark_at : Dot → Dot × Slot
mark_at d = (d, Skipped)

-- the item that all of the bytes spell: as many bytes as a dot has are a mark, others a fact
abbrev pub item_in : List ℕ → Option (Dot × Slot)
item_in bytes =
    if length bytes == dot_size then option_map mark_at (whole dot_field bytes)
    else option_map as_slot (whole fact bytes)

-- a value behind the length of its bytes, which is at most that of a fact
abbrev pub behind_length : {A : Type 0} → (A → List ℕ) → (A → Type 0) → (List ℕ → Option A)
    → Format A
behind_length bytes_of HasAll value_in = record {
  spell = λ a. text.spell (bytes_of a);
  Fits = λ a. HasAll a × (text.Fits (bytes_of a) × (nat_le (length (bytes_of a)) max_bytes ≡ true));
  read = λ bytes. (only (λ t. nat_le (length t) max_bytes) text).read bytes >>= λ t.
      value_in t.0 >>= λ a. Some (a, t.1);
}

-- an item behind its length, which is at most that of a fact
abbrev pub item : Format (Dot × Slot)
item = behind_length item_bytes HasBytes item_in

-- a reader of all of the bytes: unless memory runs out, it returns the item that they spell
abbrev pub GetsItem : Result Entry ReadError → List ℕ → Type 0
GetsItem (Ok e) bytes = item_in bytes ≡ Some (entry_of e)
GetsItem (Err Malformed) bytes = item_in bytes ≡ None
GetsItem (Err Memory) bytes = Unit {0}
