-- The loss of a fact, as the tables of a ledger follow it (own).
--   passes       the change is one of a fact that may be lost
--   WasIndexed   the tables are those of the set with one more fact
use Rattle.std.specs.Prelude.{◌≡◌, Bool, true, false, Some}
use Rattle.std.specs.Option.{option_map}
use Rattle.std.specs.FinMap as map
use Rattle.tk_handle.specs.declared.dot.Dot.{Dot}
use Rattle.tk_store.specs.FactSet.{FactSet}
use Rattle.tk_ledger.specs.Changes.{change_in}
use Rattle.tk_ledger.specs.Index.{IsIndexed}
use Rattle.tk_ledger.specs.declared.change.Change.{Change}
use Rattle.tk_ledger.specs.declared.change.Change.TheVariants as change
use Rattle.tk_ledger.specs.declared.index.Index.{Index}

-- the change issues a code, redeems one, rotates a refresh token, revokes a token, is a reuse, or
-- is none
abbrev pub passes : Change → Bool
passes (change.Issue subject start) = true
passes (change.Put link) = true
passes (change.Revoke f) = true
passes (change.Mark token) = true
passes change.Nothing = true
passes other = false

-- F is a set without its fact at the dot, which makes the change; the tables are those of the set
-- with that fact
pub record WasIndexed (F : FactSet) (d : Dot) (y : Change) (x : Index) : Type 0 where
  pub before : FactSet
  pub makes : option_map change_in (map.get before d) ≡ Some y
  pub rest : F ≡ map.remove before d
  pub indexed : IsIndexed before x
