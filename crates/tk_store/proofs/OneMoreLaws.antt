-- A set with one fact more. Key results:
--   OneMore                    one set is the other with a body at a free dot
--   more_remove                removing a fact gives such a pair of sets
--   more_subset                the smaller set is within the larger
--   any_fact-more              a test of the larger set is a test of the new fact and of the
--                              smaller set
use Rattle.std.proofs.Common.{◌≡◌, ◌≢◌, inl, inr, Bool, true, false, ◌||◌, Some, None}
use Rattle.std.proofs.Common.{sym, ap, ◌∙◌}
use Rattle.std.proofs.lemmas.Bool.{cases_Bool, cond-true, cond-false, or_cases, or_left}
use Rattle.std.proofs.lemmas.Bool.{or_right}
use Rattle.std.proofs.lemmas.Cmp.{tied_itself}
use Rattle.std.specs.Ordering.{eq_by_cmp, is_eq}
use Rattle.std.specs.FinMap as map
use Rattle.tk_handle.specs.declared.dot.Dot.{Dot}
use Rattle.tk_handle.specs.Dot.{dot_cmp, dot_cmp_total}
use Rattle.tk_fact.specs.declared.body.Body.{Body}
use Rattle.tk_store.specs.FactSet.{FactSet, IsSubset, any_fact}
use Rattle.tk_store.proofs.EntryLaws.{Passing, any_fact-held, any_fact-of}
use Rattle.tk_handle.proofs.TestLaws.{tied}
pub use Rattle.tk_dots.proofs.PlaceLaws.{cases_dots}
use Rattle.std.specs.Cmp.{both_ways as same_tests}
use Rattle.std.proofs.lemmas.Option.{none-some as none_is_not_some, same_Some as some_injective}

-- a dot equals itself
pub at_itself : (d : Dot) → eq_by_cmp dot_cmp d d ≡ true
at_itself d = ap is_eq (tied_itself dot_cmp_total d)

-- dots that differ do not compare as equal
pub apart_at : (a b : Dot) → a ≢ b → eq_by_cmp dot_cmp a b ≡ false
apart_at a b ne = elim (cases_Bool (eq_by_cmp dot_cmp a b)) [
  | inl same ↦ absurd (ne (tied a b same))
  | inr apart ↦ apart
]

-- G is F with the body b at the dot d, which was free
pub record OneMore (F G : FactSet) (d : Dot) (b : Body) : Type 0 where
  pub free : map.get F d ≡ None
  pub here : map.get G d ≡ Some b
  pub there : (q : Dot) → q ≢ d → map.get G q ≡ map.get F q

-- a set has one more than without one of its facts
pub more_remove : (G : FactSet) (d : Dot) (b : Body) → map.get G d ≡ Some b
    → OneMore (map.remove G d) G d b
more_remove G d b held = record {
  free = map.get-remove dot_cmp_total G d d
      ∙ cond-true (eq_by_cmp dot_cmp d d) None (map.get G d) (at_itself d);
  here = held;
  there = λ q ne. sym (map.get-remove dot_cmp_total G d q
      ∙ cond-false (eq_by_cmp dot_cmp q d) None (map.get G q) (apart_at q d ne));
}

-- a set is part of one with one more
pub more_subset : (F G : FactSet) (d : Dot) (b : Body) → OneMore F G d b → IsSubset F G
more_subset F G d b m q x h = elim (cases_dots q d) [
  | inl same ↦ absurd (none_is_not_some x (sym m.free ∙ ap (map.get F) (sym same) ∙ h))
  | inr ne ↦ m.there q ne ∙ h
]

-- some fact of G passes a test exactly if the new fact does, or some fact of F
pub any_fact-more : (p : Dot × Body → Bool) (F G : FactSet) (d : Dot) (b : Body) → OneMore F G d b
    → any_fact p G ≡ (p (d, b) || any_fact p F)
any_fact-more p F G d b m = same_tests (any_fact p G) (p (d, b) || any_fact p F)
    (λ h. (let x : Passing p G = any_fact-held p G h in elim (cases_dots x.dot d) [
      | inl same ↦ or_left (p (d, b)) (any_fact p F)
          (moved x.dot x.body same
          (some_injective x.body b (sym x.held ∙ ap (map.get G) same ∙ m.here)) x.passes)
      | inr ne ↦ or_right (p (d, b)) (any_fact p F)
          (any_fact-of p F x.dot x.body (sym (m.there x.dot ne) ∙ x.held) x.passes)
    ]))
    (λ h. elim (or_cases (p (d, b)) (any_fact p F) h) [
      | inl new ↦ any_fact-of p G d b m.here new
      | inr old ↦ (let x : Passing p F = any_fact-held p F old in
          any_fact-of p G x.dot x.body (more_subset F G d b m x.dot x.body x.held) x.passes)
    ])
  where
    moved : (e : Dot) (c : Body) → e ≡ d → c ≡ b → p (e, c) ≡ true → p (d, b) ≡ true
    moved e c i j k = rw (← i, ← j) k
