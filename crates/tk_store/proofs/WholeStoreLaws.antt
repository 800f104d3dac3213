-- The store of a set of facts. Key results:
--   get_whole_store    it has the slot of each fact, and no other
--   held_whole_store   it holds these facts
use Rattle.std.proofs.Common.{◌≡◌, ◌&&◌, true, false, cond, T, List, [], ◌∷◌, map, Option, Some}
use Rattle.std.proofs.Common.{None, option_map, refl, sym, ap, subst, ◌∙◌}
use Rattle.std.specs.Ordering.{eq_by_cmp, is_lt}
use Rattle.std.specs.FinMap as sets
use Rattle.std.specs.FinMap.{find}
use Rattle.std.specs.FinMap.Entries.{below_all}
use Rattle.tk_handle.specs.declared.dot.Dot.{Dot}
use Rattle.tk_handle.specs.Dot.{dot_cmp, dot_cmp_total, dot_cmp-IsAntisymmetric}
use Rattle.tk_fact.specs.declared.body.Body.{Body}
use Rattle.tk_store.specs.FactSet.{FactSet}
use Rattle.tk_store.specs.Slots.{Held, held_slot}
use Rattle.tk_store.specs.StoreFields.{held_facts}
use Rattle.tk_store.specs.WholeStores.{as_slot, whole_store}
use Rattle.tk_store.proofs.SlotLaws.{get_held}

-- a dot is below all facts of a list exactly if it is below their slots
below_as : (d : Dot) (es : List (Dot × Body))
    → below_all dot_cmp d (map as_slot es) ≡ below_all dot_cmp d es
below_as d [] = refl
below_as d (e ∷ es) = ap (λ b. is_lt (dot_cmp d e.0) && b) (below_as d es)

-- the slots of a list of facts are sorted exactly if the facts are
sorted_as : (es : List (Dot × Body))
    → sets.is_sorted dot_cmp (map as_slot es) ≡ sets.is_sorted dot_cmp es
sorted_as [] = refl
sorted_as (e ∷ es) = ap (λ b. b && sets.is_sorted dot_cmp (map as_slot es)) (below_as e.0 es)
    ∙ ap (λ b. below_all dot_cmp e.0 es && b) (sorted_as es)

-- a search in the slots of a list of facts finds the slot of the fact
find_as : (q : Dot) (es : List (Dot × Body))
    → find dot_cmp q (map as_slot es) ≡ option_map Held (find dot_cmp q es)
find_as q [] = refl
find_as q (e ∷ es) =
    elim (eq_by_cmp dot_cmp q e.0) as
    (λ t. cond t (Some (Held e.1)) (find dot_cmp q (map as_slot es))
    ≡ option_map Held (cond t (Some e.1) (find dot_cmp q es))) [
      | true ↦ refl
      | false ↦ find_as q es
    ]

-- the entries of the store of a set are the facts of the set, each as a slot
entries_as : (F : FactSet) → sets.entries (whole_store F).slots ≡ map as_slot (sets.entries F)
entries_as F = sets.entries-from_sorted dot_cmp _
    (subst T (sym (sorted_as (sets.entries F))) (sets.entries_sorted F))

-- a store of facts alone has each in its slot
pub get_whole_store : (F : FactSet) (q : Dot)
    → sets.get (whole_store F).slots q ≡ option_map Held (sets.get F q)
get_whole_store F q = sets.get-entries (whole_store F).slots q ∙ ap (find dot_cmp q) (entries_as F)
    ∙ find_as q (sets.entries F) ∙ ap (option_map Held) (sym (sets.get-entries F q))

-- a fact as a slot holds that fact
back : (o : Option Body) → held_slot (option_map Held o) ≡ o
back None = refl
back (Some b) = refl

-- a store of facts alone holds these facts
pub held_whole_store : (F : FactSet) → held_facts (whole_store F) ≡ F
held_whole_store F = sets.same_map dot_cmp_total dot_cmp-IsAntisymmetric _ _ (λ q.
    get_held (whole_store F).slots q ∙ ap held_slot (get_whole_store F q) ∙ back (sets.get F q))
