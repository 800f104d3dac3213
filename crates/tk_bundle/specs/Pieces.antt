-- Pieces: what a bundle with runs spells one after another (own). A piece is a fact, or marks that
-- follow one another without a gap.
--   follows          a dot is the next one of a region
--   continues        an item is the mark that follows the last mark
--   grouped          items as pieces, each as long as it gets
--   piece_items      the items of a piece
--   expanded         the items of pieces
--   is_proper        no marks follow the marks of the piece before
--   has_run          some piece of the items is more than one mark
--   first_pieces     the items of the first pieces
use Rattle.std.specs.Prelude.{ℕ, zero, suc, ◌+◌, ◌-◌, Bool, true, false, ◌&&◌, not, nat_le, nat_lt}
use Rattle.std.specs.Prelude.{◌==◌, List, [], ◌∷◌, length, take, Option, Some, None, if◌then◌else◌}
use Rattle.std.specs.List.{flat_map}
use Rattle.tk_handle.specs.declared.dot.Dot.{Dot}
use Rattle.tk_store.specs.Slots.{Slot, Held, Skipped}
use Rattle.tk_bundle.specs.BundleFields.{Items, is_mark}
use Rattle.tk_bundle.specs.declared.piece.Piece.{Piece}
use Rattle.tk_bundle.specs.declared.piece.Piece.TheVariants.{Fact, Marks}

-- the dot e is the one behind the dot d in its region
abbrev pub follows : Dot → Dot → Bool
follows d e = (d.region == e.region) && (d.serial + 1 == e.serial)

-- a dot, with a mark or not, continues the last mark: the dot has a mark, and follows that one
abbrev pub continues_at : Option Dot → Dot → Bool → Bool
continues_at None e marked = false
continues_at (Some d) e marked = marked && follows d e

-- the item is a mark that follows the last mark
abbrev pub continues : Option Dot → Dot × Slot → Bool
continues last i = continues_at last i.0 (is_mark i)

-- the dot, if it has a mark
abbrev pub mark_at_end : Dot → Bool → Option Dot
mark_at_end d marked = if marked then Some d else None

-- the last mark of a piece, if it is one of marks
abbrev pub last_mark : Piece → Option Dot
last_mark (Fact f) = None
last_mark (Marks d last) = Some (record { region = d.region; serial = last })

-- the piece with the mark behind it
abbrev pub extended : Piece → Dot → Piece
extended (Fact f) e = Fact f
extended (Marks d last) e = Marks d e.serial

-- the piece of one item
abbrev pub begun : Dot × Slot → Piece
begun (d, Held b) = Fact (d, b)
begun (d, Skipped) = Marks d d.serial

-- a piece, and the items behind it, as pieces
abbrev pub pieces_from : Piece → Items → List Piece
pieces_from p [] = p ∷ []
pieces_from p (i ∷ more) =
    if continues (last_mark p) i then pieces_from (extended p i.0) more
    else p ∷ pieces_from (begun i) more

-- the items as pieces
abbrev pub grouped : Items → List Piece
grouped [] = []
grouped (i ∷ more) = pieces_from (begun i) more

-- the marks of n dots of a region, one after another
unfoldable pub marks_from : Dot → ℕ → Items
marks_from d zero = []
marks_from d (suc n) =
    (d, Skipped) ∷ marks_from (record { region = d.region; serial = d.serial + 1 }) n

-- the items of a piece
abbrev pub piece_items : Piece → Items
piece_items (Fact f) = (f.0, Held f.1) ∷ []
piece_items (Marks d last) = marks_from d (suc (last - d.serial))

-- the items of pieces
abbrev pub expanded : List Piece → Items
expanded ps = flat_map piece_items ps

-- the first item of a piece
abbrev pub first_item : Piece → Dot × Slot
first_item (Fact f) = (f.0, Held f.1)
first_item (Marks d last) = (d, Skipped)

-- the last mark of the piece isn't before its first
abbrev pub is_stretch : Piece → Bool
is_stretch (Fact f) = true
is_stretch (Marks d last) = nat_le d.serial last

-- no piece behind the last mark continues the one before it
abbrev pub is_proper_behind : Option Dot → List Piece → Bool
is_proper_behind last [] = true
is_proper_behind last (p ∷ ps) =
    not (continues last (first_item p)) && (is_stretch p && is_proper_behind (last_mark p) ps)

-- no piece continues the one before it
abbrev pub is_proper : List Piece → Bool
is_proper ps = is_proper_behind None ps

-- marks that follow one another are among the items: they are fewer pieces than items
abbrev pub has_run : Items → Bool
has_run items = nat_lt (length (grouped items)) (length items)

-- the items of the first n pieces
abbrev pub first_pieces : ℕ → Items → Items
first_pieces n items = expanded (take n (grouped items))
