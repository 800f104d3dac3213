-- The lines that are events, and the random words of requests (own).
--   IsSliceForm     the fields of a slice of a prune
--   IsEventForm     the event of a line's fields
--   IsEventLine     the event of a line
--   HasWords        the random words of a request
use Rattle.std.specs.Prelude.{◌≡◌, ◌≤◌, ◌<◌, ◌^◌, ⊤, ℕ, List, [], ◌∷◌, map, length, codes, decimal}
use Rattle.std.specs.Prelude.{Vec, Option, Some}
use Rattle.std.specs.declared.alloc.Global.{Global}
use Rattle.std.specs.Option.{option_map}
use Rattle.std.specs.Borrow.{Bor}
use Rattle.std.specs.List.{All, slice_split}
use Rattle.tk_handle.specs.Ranges.{IsRegion, IsMoment}
use Rattle.tk_handle.specs.declared.dot.Dot.{Dot}
use Rattle.tk_vector.specs.VectorText.{IsVectorText}
use Rattle.tk_world.specs.declared.event.Event.{Event}
use Rattle.tk_world.specs.declared.event.Event.TheVariants.{Open, Request, Pull, Deliver, Prune}
use Rattle.tk_world.specs.declared.event.Event.TheVariants.{PruneSome}
use Rattle.tk_world.specs.Fields.{is_space, IsCursorText}
use Rattle.tk_world.specs.RequestLine.{asked_of}

-- the bytes are spaces and visible ASCII
abbrev pub IsPrintable : List ℕ → Type 0
IsPrintable line = All (λ b. (32 ≤ b) × (b ≤ 126)) line

-- the texts of a `&[&str]`
abbrev pub texts : List (Bor (List ℕ)) → List (List ℕ)
texts fields = map (λ field. field.now) fields

-- the bytes of an optional vector
abbrev pub bytes_in : Option (Vec ℕ Global) → Option (List ℕ)
bytes_in bytes = option_map (λ v. v.items) bytes

-- the fields of a slice of a prune: `prune_some R H AFTER COUNT`
abbrev pub IsSliceForm : List (List ℕ) → ℕ → ℕ → Option Dot → ℕ → Type 0
IsSliceForm fields region horizon after count =
    (place : List ℕ)
    × (fields ≡ codes "prune_some" ∷ decimal region ∷ decimal horizon ∷ place ∷ decimal count ∷ [])
    × IsRegion region × IsMoment horizon × IsCursorText place after × (count < 2 ^ 64)

-- the event of a line's fields: `open R`, NAME R NOW and a request's form, `pull R VECTOR AFTER`,
-- `deliver B R`, `prune R H`, or `prune_some R H AFTER COUNT`
abbrev pub IsEventForm : List (List ℕ) → Event → Type 0
IsEventForm fields (Open region) = (fields ≡ codes "open" ∷ decimal region ∷ []) × IsRegion region
IsEventForm fields (Request region now words bytes) =
    (name : List ℕ) × (form : List (List ℕ)) × (fields ≡ name ∷ decimal region ∷ decimal now ∷ form)
    × IsRegion region × IsMoment now × (asked_of name form ≡ Some bytes.items)
IsEventForm fields (Pull region vector after) =
    (entries : List ℕ) × (place : List ℕ)
    × (fields ≡ codes "pull" ∷ decimal region ∷ entries ∷ place ∷ [])
    × IsRegion region × IsVectorText entries vector × IsCursorText place after
IsEventForm fields (Deliver bundle region) =
    (fields ≡ codes "deliver" ∷ decimal bundle ∷ decimal region ∷ []) × (bundle < 2 ^ 64)
    × IsRegion region
IsEventForm fields (Prune region horizon) =
    (fields ≡ codes "prune" ∷ decimal region ∷ decimal horizon ∷ []) × IsRegion region
    × IsMoment horizon
IsEventForm fields (PruneSome region horizon after count) =
    IsSliceForm fields region horizon after count

-- the fields have no event's form
abbrev pub IsNoEventForm : List (List ℕ) → Type 0
IsNoEventForm fields = (event : Event) → ¬ (IsEventForm fields event)

-- the line's fields, with single spaces between them, have the event's form
pub record IsEventLine (line : List ℕ) (event : Event) : Type 0 where
  pub printable : IsPrintable line
  pub parted : All (λ field. 0 < length field) (slice_split is_space line)
  pub form : IsEventForm (slice_split is_space line) event

-- the line has no event's form, or a number out of its range
abbrev pub IsNoEventLine : List ℕ → Type 0
IsNoEventLine line = (event : Event) → ¬ (IsEventLine line event)

-- a request has these random words; other events have no words
abbrev pub HasWords : List ℕ → Event → Type 0
HasWords words (Open region) = ⊤
HasWords words (Request region now drawn bytes) = drawn ≡ words
HasWords words (Pull region vector after) = ⊤
HasWords words (Deliver bundle region) = ⊤
HasWords words (Prune region horizon) = ⊤
HasWords words (PruneSome region horizon after count) = ⊤
