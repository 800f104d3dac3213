-- The number of pieces of items, by their dots and marks alone (own).
--   marked_item    the dot of an item, and whether the item is a mark
--   marked_in      a dot, and whether slots skip it
--   piece_count    the number of pieces that dots begin
--   fitting        the number of the first dots that begin at most a number of pieces
use Rattle.std.specs.Prelude.{ℕ, suc, ◌-◌, Bool, ◌==◌, List, [], ◌∷◌, Option, if◌then◌else◌}
use Rattle.tk_handle.specs.declared.dot.Dot.{Dot}
use Rattle.tk_store.specs.Slots.{Slot, Slots, is_skipped}
use Rattle.tk_bundle.specs.BundleFields.{is_mark}
use Rattle.tk_bundle.specs.Pieces.{continues_at, mark_at_end}

-- the dot of an item, and whether the item is a mark
abbrev pub marked_item : Dot × Slot → Dot × Bool
marked_item i = (i.0, is_mark i)

-- a dot, and whether the slots skip it
abbrev pub marked_in : Slots → Dot → Dot × Bool
marked_in S d = (d, is_skipped S d)

-- the number of pieces that dots begin, behind the last mark
abbrev pub piece_count : Option Dot → List (Dot × Bool) → ℕ
piece_count last [] = 0
piece_count last (x ∷ more) =
    if continues_at last x.0 x.1 then piece_count (mark_at_end x.0 x.1) more
    else suc (piece_count (mark_at_end x.0 x.1) more)

-- the number of the first dots that begin at most `room` pieces, behind the last mark
abbrev pub fitting : ℕ → Option Dot → List (Dot × Bool) → ℕ
fitting room last [] = 0
fitting room last (x ∷ more) =
    if continues_at last x.0 x.1 then suc (fitting room (mark_at_end x.0 x.1) more)
    else if room == 0 then 0
    else suc (fitting (room - 1) (mark_at_end x.0 x.1) more)
