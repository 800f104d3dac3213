-- Pages of a set of facts (own).
--   PageFields   the facts of a page, the dot of the last, and whether more follow
--   page_of      the page of a set for a vector and a cursor
use Rattle.std.specs.Prelude.{Bool, nat_lt, length, Option}
use Rattle.tk_handle.specs.declared.dot.Dot.{Dot}
use Rattle.tk_vector.specs.VersionVector.{Vector}
use Rattle.tk_store.specs.Beyond.{beyond}
use Rattle.tk_store.specs.FactSet.{FactSet, Facts}
use Rattle.tk_store.specs.Paging.{page, last_dot}
use Rattle.tk_bundle.specs.Bundle.{max_items}

-- the facts of a page, the dot of the last, and whether more follow
pub record PageFields : Type 0 where
  pub facts : Facts
  pub last : Option Dot
  pub more : Bool

-- the first 128 facts above the cursor `after` that the vector does not cover
abbrev pub page_of : FactSet → Vector → Option Dot → PageFields
page_of F v after = record {
  facts = page max_items F v after;
  last = last_dot (page max_items F v after);
  more = nat_lt max_items (length (beyond F v after));
}
