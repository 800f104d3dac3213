-- Sets within sets, and lists of facts that are in a set. Key results:
--   subset_with_facts, keeps_with_facts   adding facts of U to a set within U stays within U, and
--                                         removes nothing
--   AllIn-take, AllIn-filter, AllIn-subset, AllIn-at   parts of a list that is in a set
use Rattle.std.proofs.Common.{◌≡◌, ℕ, zero, suc, ◌<◌, Bool, true, false, cond, List, [], ◌∷◌}
use Rattle.std.proofs.Common.{length, get_or, filter, take, Some, sym, ap, ◌∙◌, arith}
use Rattle.std.specs.FinMap as map
use Rattle.tk_handle.specs.declared.dot.Dot.{Dot}
use Rattle.tk_handle.specs.Dot.{dot_cmp}
use Rattle.tk_fact.specs.declared.body.Body.{Body}
use Rattle.tk_store.specs.FactSet.{FactSet, Facts, AllIn, IsSubset, with_facts}
use Rattle.tk_store.proofs.PutLaws.{by_dot, of_dot}

-- a set is part of itself
pub subset_itself : (F : FactSet) → IsSubset F F
subset_itself F d b h = h

-- a part of a part is a part
pub subset_trans : (F G H : FactSet) → IsSubset F G → IsSubset G H → IsSubset F H
subset_trans F G H f g d b h = g d b (f d b h)

-- inserting a fact of U into a set within U stays within U
pub subset_insert : (F U : FactSet) (d : Dot) (b : Body) → IsSubset F U → map.get U d ≡ Some b
    → IsSubset (map.insert F d b) U
subset_insert F U d b f u q c h = of_dot F d b q c (map.get U q ≡ Some c)
    (λ same bc. ap (map.get U) same ∙ u ∙ ap Some bc) (f q c) h

-- inserting a fact of U into a set within U removes nothing
keeps_insert : (F U : FactSet) (d : Dot) (b : Body) → IsSubset F U → map.get U d ≡ Some b
    → IsSubset F (map.insert F d b)
keeps_insert F U d b f u q c h =
    by_dot (λ o. o ≡ Some c) F d b q (λ same. sym u ∙ ap (map.get U) (sym same) ∙ f q c h) h

-- a part stays one with more facts of the whole
pub subset_with_facts : (F U : FactSet) (fs : Facts) → IsSubset F U → AllIn U fs
    → IsSubset (with_facts F fs) U
subset_with_facts F U [] f a = f
subset_with_facts F U (x ∷ fs) f a =
    subset_with_facts (map.insert F x.0 x.1) U fs (subset_insert F U x.0 x.1 f a.0) a.1

-- a part is a part of itself with more facts
pub keeps_with_facts : (F U : FactSet) (fs : Facts) → IsSubset F U → AllIn U fs
    → IsSubset F (with_facts F fs)
keeps_with_facts F U [] f a = subset_itself F
keeps_with_facts F U (x ∷ fs) f a =
    subset_trans F (map.insert F x.0 x.1) _ (keeps_insert F U x.0 x.1 f a.0)
    (keeps_with_facts (map.insert F x.0 x.1) U fs (subset_insert F U x.0 x.1 f a.0) a.1)

-- the first of a list of facts are in the set
pub AllIn-take : (U : FactSet) (k : ℕ) (fs : Facts) → AllIn U fs → AllIn U (take k fs)
AllIn-take U zero fs a = tt
AllIn-take U (suc k) [] a = tt
AllIn-take U (suc k) (f ∷ fs) a = (a.0, AllIn-take U k fs a.1)

-- the facts that a filter keeps are in the set
pub AllIn-filter : {X : Type 0} (U : map.FinMap dot_cmp X) (p : Dot × X → Bool)
    (fs : List (Dot × X))
    → AllIn U fs → AllIn U (filter p fs)
AllIn-filter U p [] a = tt
AllIn-filter U p (f ∷ fs) a = elim (p f) as
    (λ t. AllIn U (cond t (f ∷ filter p fs) (filter p fs))) [
      | true ↦ (a.0, AllIn-filter U p fs a.1)
      | false ↦ AllIn-filter U p fs a.1
    ]

-- facts of a part are in the whole
pub AllIn-subset : (F U : FactSet) (fs : Facts) → IsSubset F U → AllIn F fs → AllIn U fs
AllIn-subset F U [] f a = tt
AllIn-subset F U (x ∷ fs) f a = (f x.0 x.1 a.0, AllIn-subset F U fs f a.1)

-- the fact at a place of a list that is in a set is in the set
pub AllIn-at : (U : FactSet) (fs : Facts) (i : ℕ) (d : Dot × Body) → AllIn U fs → i < length fs
    → map.get U (get_or fs i d).0 ≡ Some (get_or fs i d).1
AllIn-at U [] i d a lt = absurd (omega arith)
AllIn-at U (f ∷ fs) zero d a lt = a.0
AllIn-at U (f ∷ fs) (suc i) d a lt = AllIn-at U fs i d a.1 (omega arith)
