-- Paging by the cursor and the flag `more` of each page (own).
--   page_by         the page of a store, without runs or with them
--   HasPages        slots have the pages made for a vector, one after another, to the last
--   PagesComplete   slots that have all pages know all that the sender knew at the first page
use Rattle.std.specs.Prelude.{◌≡◌, Bool, true, false, List, [], ◌∷◌, Option, None}
use Rattle.tk_handle.specs.declared.dot.Dot.{Dot}
use Rattle.tk_vector.specs.VersionVector.{Vector}
use Rattle.tk_store.specs.Paging.{KnowsCovered}
use Rattle.tk_store.specs.SlotJoining.{AllBelow}
use Rattle.tk_store.specs.SlotOrder.{SlotsBelow}
use Rattle.tk_store.specs.Slots.{Slots}
use Rattle.tk_store.specs.StoreFields.{StoreFields}
use Rattle.tk_bundle.specs.Page.{PageFields, page_of}
use Rattle.tk_bundle.specs.RunPage.{run_page_of}

-- the page of a store for a vector and a cursor, without runs or with them
abbrev pub page_by : Bool → StoreFields → Vector → Option Dot → PageFields
page_by false P v after = page_of P v after
page_by true P v after = run_page_of P v after

-- R has all pages for the vector v from the cursor `after` on, without runs or with them: it knows
-- each item, or has skipped that dot since. The first page is made from P. Each later page is made
-- at the last dot of the page before, from a store that may have grown, until no more follow
abbrev pub HasPages : Bool → Vector → Slots → Option Dot → StoreFields → List StoreFields → Type 0
HasPages runs v R after P [] =
    AllBelow R (page_by runs P v after).bundle.items × ((page_by runs P v after).more ≡ false)
HasPages runs v R after P (Q ∷ later) =
    AllBelow R (page_by runs P v after).bundle.items × ((page_by runs P v after).more ≡ true)
    × SlotsBelow P.slots Q.slots × HasPages runs v R (page_by runs P v after).last Q later

-- paging loses nothing: a receiver that knows all that the vector covers, and has every page made
-- for the vector, in whatever order they arrived, knows all that the sender knew at the first page
abbrev pub PagesComplete : Type 0
PagesComplete = (runs : Bool) (v : Vector) (P R : StoreFields) (later : List StoreFields)
    → KnowsCovered v P.slots R.slots → HasPages runs v R.slots None P later
    → SlotsBelow P.slots R.slots
