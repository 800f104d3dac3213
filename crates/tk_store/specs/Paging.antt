-- Paging through what a store knows and a vector does not cover (own).
--   page              the first slots above a cursor that a vector does not cover
--   last_dot          the cursor of the next page
--   TookPages         slots have the pages that were made for a vector, one after another, until no
--                     more followed
--   KnowsCovered      slots know what others know and a vector covers
--   PagingCompletes   who took all pages knows all that the sender knew at the first page
use Rattle.std.specs.Prelude.{ℕ, ◌-◌, ◌<◌, ◌≤◌, List, [], ◌∷◌, length, map, take, slice_get, Option}
use Rattle.std.specs.Prelude.{None}
use Rattle.std.specs.FinMap as sets
use Rattle.tk_handle.specs.declared.dot.Dot.{Dot}
use Rattle.tk_handle.specs.Dot.{dot_cmp}
use Rattle.tk_vector.specs.VersionVector.{Vector, Covers}
use Rattle.tk_store.specs.FactSet.{dot_of}
use Rattle.tk_store.specs.Beyond.{beyond}
use Rattle.tk_store.specs.SlotJoining.{AllBelow}
use Rattle.tk_store.specs.SlotOrder.{SlotBelow, SlotsBelow}
use Rattle.tk_store.specs.Slots.{Slots}

-- the first entries above the cursor `after` that the vector does not cover, at most `limit`
abbrev pub page : {X : Type 0} → ℕ → sets.FinMap dot_cmp X → Vector → Option Dot → List (Dot × X)
page limit F v after = take limit (beyond F v after)

-- the dot of the last entry of a page, which is the cursor of the next
abbrev pub last_dot : {X : Type 0} → List (Dot × X) → Option Dot
last_dot fs = slice_get (map dot_of fs) (length fs - 1)

-- R has all pages for the vector v from the cursor `after` on: it knows each slot of theirs, or has
-- skipped that dot since. The first page is made from S; each later page is made at the last dot of
-- the page before, from slots that may have grown, until no more follow
abbrev pub TookPages : ℕ → Vector → Slots → Option Dot → Slots → List Slots → Type 0
TookPages limit v R after S [] =
    AllBelow R (page limit S v after) × (length (beyond S v after) ≤ limit)
TookPages limit v R after S (T ∷ later) =
    AllBelow R (page limit S v after) × (limit < length (beyond S v after)) × SlotsBelow S T
    × TookPages limit v R (last_dot (page limit S v after)) T later

-- R knows all that S knows and the vector covers
abbrev pub KnowsCovered : Vector → Slots → Slots → Type 0
KnowsCovered v S R = (d : Dot) → Covers v d → SlotBelow (sets.get S d) (sets.get R d)

-- paging loses nothing: a receiver that knows all that the vector covers, and has every page made
-- for the vector, knows all that the sender knew at the first page
abbrev pub PagingCompletes : Type 0
PagingCompletes =
    (limit : ℕ) (v : Vector) (S R : Slots) (later : List Slots) → 0 < limit → KnowsCovered v S R
    → TookPages limit v R None S later → SlotsBelow S R
