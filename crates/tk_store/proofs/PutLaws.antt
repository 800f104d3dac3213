-- The facts of a set once a fact is put into it. Key results, by which the files above reason about
-- sets:
--   by_dot, of_dot   the body at a dot after an insertion, in a goal and in a premise
--   insert_held      a fact that is held changes nothing
--   taken_back       putting a fact at a free dot and taking it back leaves the set
--   IsFactSet-insert, IsFactSet-empty, IsFactSet-remove   the facts still pass their checks
use Rattle.std.proofs.Common.{◌≡◌, ◌+◌, true, false, cond, Option, Some, None, is_some, refl, sym}
use Rattle.std.proofs.Common.{ap, subst, ◌∙◌}
use Rattle.std.specs.Ordering.{eq_by_cmp, is_eq}
use Rattle.std.proofs.lemmas.Cmp.{tied_itself}
use Rattle.std.specs.FinMap as map
use Rattle.tk_handle.specs.declared.dot.Dot.{Dot}
use Rattle.tk_handle.specs.Dot.{dot_cmp, dot_cmp_total, dot_cmp-IsAntisymmetric}
use Rattle.tk_fact.specs.Check.{refusal_of}
use Rattle.tk_fact.specs.declared.body.Body.{Body}
use Rattle.tk_store.specs.FactSet.{FactSet, IsFactSet}
use Rattle.tk_handle.proofs.TestLaws.{tied}
pub use Rattle.std.proofs.lemmas.Option.{none-some as none_is_not_some, same_Some as some_injective}

module _ {X : Type 0} where
  -- P holds of what is at a dot after an insertion, if P holds of the new body and of what was
  -- there
  pub by_dot : (P : Option X → Type 0) (F : map.FinMap dot_cmp X) (d : Dot) (b : X) (q : Dot)
      → (q ≡ d → P (Some b)) → P (map.get F q) → P (map.get (map.insert F d b) q)
  by_dot P F d b q here there =
      subst P (sym (map.get-insert dot_cmp_total F d b q))
      (elim (eq_by_cmp dot_cmp q d) as
      (λ t. eq_by_cmp dot_cmp q d ≡ t → P (cond t (Some b) (map.get F q))) [
        | true ↦ λ e. here (tied q d e)
        | false ↦ λ _. there
      ] refl)

  -- a body at a dot after an insertion is the new body, or was there
  pub of_dot : (F : map.FinMap dot_cmp X) (d : Dot) (b : X) (q : Dot) (c : X) (P : Type 0)
      → (q ≡ d → b ≡ c → P) → (map.get F q ≡ Some c → P) → map.get (map.insert F d b) q ≡ Some c → P
  of_dot F d b q c P here there h =
      elim (eq_by_cmp dot_cmp q d) as
      (λ t. eq_by_cmp dot_cmp q d ≡ t → cond t (Some b) (map.get F q) ≡ Some c → P) [
        | true ↦ λ e k. here (tied q d e) (some_injective b c k)
        | false ↦ λ _ k. there k
      ] refl (sym (map.get-insert dot_cmp_total F d b q) ∙ h)

  -- a value that was inserted is at its dot
  pub get_here : (F : map.FinMap dot_cmp X) (d : Dot) (b : X)
      → map.get (map.insert F d b) d ≡ Some b
  get_here F d b = map.get-insert dot_cmp_total F d b d
      ∙ ap (λ o. cond (is_eq o) (Some b) (map.get F d)) (tied_itself dot_cmp_total d)

  -- inserting a fact that is held changes nothing
  pub insert_held : (F : map.FinMap dot_cmp X) (d : Dot) (b : X) → map.get F d ≡ Some b
      → map.insert F d b ≡ F
  insert_held F d b h = map.same_map dot_cmp_total dot_cmp-IsAntisymmetric _ _
      (λ q. by_dot (λ o. o ≡ map.get F q) F d b q (λ same. sym h ∙ ap (map.get F) (sym same)) refl)

  -- inserting a new fact makes the set larger by one
  pub len_new : (F : map.FinMap dot_cmp X) (d : Dot) (b : X) → map.get F d ≡ None
      → map.len (map.insert F d b) ≡ map.len F + 1
  len_new F d b none = map.len-insert dot_cmp_total F d b
      ∙ ap (λ o. cond (is_some o) (map.len F) (map.len F + 1)) none

  -- putting a fact at a free dot and taking it back leaves the set
  pub taken_back : (F : map.FinMap dot_cmp X) (d : Dot) (b : X) → map.get F d ≡ None
      → map.remove (map.insert F d b) d ≡ F
  taken_back F d b free = map.same_map dot_cmp_total dot_cmp-IsAntisymmetric _ _ (λ q.
      map.get-remove dot_cmp_total (map.insert F d b) d q
      ∙ elim (eq_by_cmp dot_cmp q d) as
      (λ t. eq_by_cmp dot_cmp q d ≡ t → cond t None (map.get (map.insert F d b) q) ≡ map.get F q) [
        | true ↦ λ e. sym free ∙ ap (map.get F) (sym (tied q d e))
        | false ↦
            λ e. map.get-insert dot_cmp_total F d b q ∙ ap (λ t. cond t (Some b) (map.get F q)) e
      ] refl)

-- the facts of the empty set pass their checks
pub IsFactSet-empty : IsFactSet map.empty
IsFactSet-empty d b h = absurd (none_is_not_some b (sym (map.get-empty dot_cmp d) ∙ h))

-- a set of facts with one more that passes is one
pub IsFactSet-insert : (F : FactSet) (d : Dot) (b : Body) → IsFactSet F → refusal_of b ≡ None
    → IsFactSet (map.insert F d b)
IsFactSet-insert F d b sound passes q c h =
    of_dot F d b q c (refusal_of c ≡ None) (λ _ same. ap refusal_of (sym same) ∙ passes)
    (sound q c) h

-- a set of facts without one of them is one
pub IsFactSet-remove : (F : FactSet) (d : Dot) → IsFactSet F → IsFactSet (map.remove F d)
IsFactSet-remove F d sound q c h =
    elim (eq_by_cmp dot_cmp q d) as
    (λ t. cond t None (map.get F q) ≡ Some c → refusal_of c ≡ None) [
      | true ↦ λ k. absurd (none_is_not_some c k)
      | false ↦ sound q c
    ] (sym (map.get-remove dot_cmp_total F d q) ∙ h)
