-- Joining facts to a set. Key results:
--   joins_with_facts      facts of U are joined to a set within U
--   joins_nothing         joining no facts leaves the set
--   joins_more            joining facts, and then more
--   joins_same            joining the same facts in any order, however often each, gives one set
--   joins_is_with_facts   the joined set is the set with the facts added
use Rattle.std.proofs.Common.{◌≡◌, ◌⊎◌, [], ◌∷◌, ◌++◌, Option, Some, None, refl, sym, ap, subst}
use Rattle.std.proofs.Common.{◌∙◌, inl, inr, Contains, arith}
use Rattle.std.proofs.lemmas.List.Elements.{Contains-append_right}
use Rattle.std.specs.FinMap as map
use Rattle.tk_handle.specs.declared.dot.Dot.{Dot}
use Rattle.tk_handle.specs.Dot.{dot_cmp}
use Rattle.tk_fact.specs.declared.body.Body.{Body}
use Rattle.tk_store.specs.FactSet.{FactSet, Facts, AllIn, IsSubset, with_facts}
use Rattle.tk_store.specs.Joining.{JoinsFacts, SameFacts}
use Rattle.tk_store.proofs.FactSetLaws.{same_set, with_facts-append, with_facts_is_joined}
use Rattle.tk_store.proofs.PutLaws.{of_dot, get_here}
use Rattle.tk_store.proofs.SubsetLaws.{subset_itself, subset_trans, subset_insert}
use Rattle.tk_store.proofs.SubsetLaws.{subset_with_facts, keeps_with_facts, AllIn-at, AllIn-subset}
use Rattle.std.proofs.lemmas.Option.{none-some as none_is_not_some, same_Some as some_injective}

-- sets within each other are equal
pub subset_antisym : (F G : FactSet) → IsSubset F G → IsSubset G F → F ≡ G
subset_antisym F G f g = same_set F G (λ q. alike q (map.get F q) (map.get G q) refl refl)
  where
    alike : (q : Dot) (a b : Option Body) → map.get F q ≡ a → map.get G q ≡ b
        → map.get F q ≡ map.get G q
    alike q None None h k = h ∙ sym k
    alike q None (Some c) h k = g q c k ∙ sym k
    alike q (Some b) o h k = h ∙ sym (f q b h)

-- two lists of facts of a set are one list of its facts
pub AllIn-append : (U : FactSet) (fs gs : Facts) → AllIn U fs → AllIn U gs → AllIn U (fs ++ gs)
AllIn-append U [] gs a b = b
AllIn-append U (f ∷ fs) gs a b = (a.0, AllIn-append U fs gs a.1 b)

-- a fact of a list whose facts are in U is in U
pub AllIn-contains : (U : FactSet) (fs : Facts) (f : Dot × Body) → AllIn U fs → Contains fs f
    → map.get U f.0 ≡ Some f.1
AllIn-contains U fs f all c =
    subst (λ (g : Dot × Body). map.get U g.0 ≡ Some g.1) c.2 (AllIn-at U fs c.0 f all c.1)

-- the empty set is a subset of each set
empty_subset : (U : FactSet) → IsSubset map.empty U
empty_subset U d b h = absurd (none_is_not_some b (sym (map.get-empty dot_cmp d) ∙ h))

-- facts of U are held once they are added to a set within U
held_with_facts : (F U : FactSet) (fs : Facts) → IsSubset F U → AllIn U fs
    → AllIn (with_facts F fs) fs
held_with_facts F U [] f a = tt
held_with_facts F U (x ∷ fs) f a =
    let more = subset_insert F U x.0 x.1 f a.0 in (
      keeps_with_facts (map.insert F x.0 x.1) U fs more a.1 x.0 x.1 (get_here F x.0 x.1),
      held_with_facts (map.insert F x.0 x.1) U fs more a.1,
    )

-- a fact of a set with facts added was in the set, or is one of those added
only_with_facts : (F : FactSet) (fs : Facts) (d : Dot) (b : Body)
    → map.get (with_facts F fs) d ≡ Some b → (map.get F d ≡ Some b) ⊎ Contains fs (d, b)
only_with_facts F [] d b h = inl h
only_with_facts F (x ∷ fs) d b h = elim (only_with_facts (map.insert F x.0 x.1) fs d b h) [
  | inl before ↦ of_dot F x.0 x.1 d b ((map.get F d ≡ Some b) ⊎ Contains (x ∷ fs) (d, b))
      (λ same body. inr (0, omega arith, first (d, b) (sym same) body)) inl before
  | inr later ↦ inr (Contains-append_right (x ∷ []) fs (d, b) later)
]
  where
    first : (f : Dot × Body) → x.0 ≡ f.0 → x.1 ≡ f.1 → x ≡ f
    first f i j = ap (λ (d : Dot). (d, x.1)) i ∙ ap (λ (b : Body). (f.0, b)) j

-- a set joins facts of a greater set by adding them
pub joins_with_facts : (U F : FactSet) (fs : Facts) → IsSubset F U → AllIn U fs
    → JoinsFacts F fs (with_facts F fs)
joins_with_facts U F fs within all = record {
  kept = keeps_with_facts F U fs within all;
  held = held_with_facts F U fs within all;
  only = only_with_facts F fs;
  agree = λ d b c at there. some_injective b c
      (sym (within d b at) ∙ subset_with_facts map.empty U fs (empty_subset U) all d c there);
  joins = with_facts_is_joined F fs;
}

-- no facts join a set as it is
pub joins_nothing : (F : FactSet) → JoinsFacts F [] F
joins_nothing F = joins_with_facts F F [] (subset_itself F) tt

-- joining facts is adding them
pub joins_is_with_facts : {F G : FactSet} {fs : Facts} → JoinsFacts F fs G → G ≡ with_facts F fs
joins_is_with_facts {F} {G} {fs} k = k.joins ∙ sym (with_facts_is_joined F fs)

-- facts that are joined after others are joined with them
pub joins_more : {F G H : FactSet} {fs gs : Facts} → JoinsFacts F fs G → JoinsFacts G gs H
    → JoinsFacts F (fs ++ gs) H
joins_more {F} {G} {H} {fs} {gs} k h =
    subst (JoinsFacts F (fs ++ gs)) (sym both)
    (joins_with_facts H F (fs ++ gs) (subset_trans F G H k.kept h.kept)
    (AllIn-append H fs gs (AllIn-subset G H fs h.kept k.held) h.held))
  where
    both : H ≡ with_facts F (fs ++ gs)
    both = joins_is_with_facts h ∙ ap (λ K. with_facts K gs) (joins_is_with_facts k)
        ∙ sym (with_facts-append F fs gs)

-- the result of joining facts is within the result of joining a list that has them all
same_subset : (F G H : FactSet) (fs gs : Facts) → JoinsFacts F fs G → JoinsFacts F gs H
    → ((f : Dot × Body) → Contains fs f → Contains gs f) → IsSubset G H
same_subset F G H fs gs k h into d b at = elim (k.only d b at) [
  | inl before ↦ h.kept d b before
  | inr new ↦ AllIn-contains H gs (d, b) h.held (into (d, b) new)
]

-- equal facts in any order join to one set
pub joins_same : {F G H : FactSet} {fs gs : Facts} → JoinsFacts F fs G → JoinsFacts F gs H
    → SameFacts fs gs → G ≡ H
joins_same {F} {G} {H} {fs} {gs} k h same =
    subset_antisym G H (same_subset F G H fs gs k h (λ f. (same f).0))
    (same_subset F H G gs fs h k (λ f. (same f).1))
