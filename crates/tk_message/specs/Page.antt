-- A page of entries at dots, as operators see them (own).
--   max_listed   how many entries a page has at most
--   listed      the first entries, as items
--   cursor_of   the dot behind which the next page begins, if there is one
use Rattle.std.specs.Prelude.{ℕ, zero, suc, List, [], ◌∷◌, Option, Some, None}
use Rattle.serde_json.specs.Data.{Data, Items, no_items, item}
use Rattle.tk_handle.specs.declared.dot.Dot.{Dot}

-- how many entries a page has at most (own)
abbrev pub max_listed : ℕ
max_listed = 128

-- the first n entries, each with this body, as items (own)
abbrev pub listed : {X : Type 0} → (Dot × X → Data) → ℕ → List (Dot × X) → Items
listed body zero entries = no_items
listed body (suc n) [] = no_items
listed body (suc n) (e ∷ entries) = item (body e) (listed body n entries)

-- the dot of the last of the first n entries, if others follow; `at` is the one before them (own)
abbrev pub cursor_of : {X : Type 0} → ℕ → Option Dot → List (Dot × X) → Option Dot
cursor_of zero at [] = None
cursor_of zero at (e ∷ entries) = at
cursor_of (suc n) at [] = None
cursor_of (suc n) at (e ∷ entries) = cursor_of n (Some e.0) entries
