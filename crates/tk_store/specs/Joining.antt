-- Joining facts to a set (own).
--   SameFacts    two lists have the same facts
--   JoinsFacts   the set that results from joining a list of facts, which agree, to a set
use Rattle.std.specs.Prelude.{◌≡◌, ◌↔◌, ◌⊎◌, Contains, Some}
use Rattle.std.specs.FinMap as map
use Rattle.tk_handle.specs.declared.dot.Dot.{Dot}
use Rattle.tk_fact.specs.declared.body.Body.{Body}
use Rattle.tk_store.specs.FactSet.{FactSet, Facts, Agree, AllIn, IsSubset, set_of, joined}

-- two lists have the same facts, whatever the order
abbrev pub SameFacts : Facts → Facts → Type 0
SameFacts fs gs = (f : Dot × Body) → Contains fs f ↔ Contains gs f

-- `new` is the join of the set `old` and the facts fs, which agree
pub record JoinsFacts (old : FactSet) (fs : Facts) (new : FactSet) : Type 0 where
  -- each fact that was held is still held
  pub kept : IsSubset old new
  -- each fact of the list is held
  pub held : AllIn new fs
  -- no other fact is held
  pub only : (d : Dot) (b : Body) → map.get new d ≡ Some b
      → (map.get old d ≡ Some b) ⊎ Contains fs (d, b)
  -- the sets that are joined agree
  pub agree : Agree old (set_of fs)
  -- the new set is the join of the two
  pub joins : new ≡ joined old (set_of fs)
