-- A walk by dots: what is above the first fact above a dot is the rest of what is above that dot.
--   above_next   a walk that goes on from its last fact sees each fact once, and ends
--   steps_on     one call of the walk
use Rattle.std.proofs.Common.{◌≡◌, true, false, cond, T, List, [], ◌∷◌, filter, slice_get}
use Rattle.std.proofs.Common.{Option, Some, None, refl, sym, ap, subst, ◌∙◌}
use Rattle.std.specs.Ordering.{is_lt, ordering_reverse}
use Rattle.std.specs.FinMap as map
use Rattle.std.specs.FinMap.Entries.{below_all}
use Rattle.std.proofs.lemmas.Cmp.{tied_itself}
use Rattle.tk_handle.specs.declared.dot.Dot.{Dot}
use Rattle.tk_handle.specs.Dot.{dot_cmp, dot_cmp_total}
use Rattle.tk_fact.specs.declared.body.Body.{Body}
use Rattle.tk_store.specs.declared.slot.SlotRef.{SlotRef}
use Rattle.tk_store.specs.declared.slot.SlotRef.TheVariants as ref
use Rattle.tk_store.specs.Slots.{Slots, Held, Skipped, held_in}
use Rattle.tk_store.specs.Table.{IsStep}
use Rattle.tk_store.specs.Walk.{is_above, above}
use Rattle.tk_handle.proofs.TestLaws.{both, is_true, lesser as less}

module _ {X : Type 0} where
  -- a test that keeps e keeps all of a list above e
  keeps_all : (a : Option Dot) (e : Dot × X) (es : List (Dot × X)) → is_above a e ≡ true
      → T (below_all dot_cmp e.0 es) → filter (is_above a) es ≡ es
  keeps_all a e [] h low = refl
  keeps_all a e (x ∷ es) h low =
      let l = both _ _ low in
      ap (λ t. cond t (x ∷ filter (is_above a) es) (filter (is_above a) es)) (past a h)
      ∙ ap (λ rest. x ∷ rest) (keeps_all a e es h l.1)
    where
      past : (a : Option Dot) → is_above a e ≡ true → is_above a x ≡ true
      past None h = refl
      past (Some d) h = ap is_lt
          (dot_cmp_total.trans d e.0 x.0 (less _ (subst T (sym h) tt)) (less _ (both _ _ low).0))

  -- an entry below all of a list is not above the first fact that a walk of the list finds
  first_is_above : (a : Option Dot) (e : Dot × X) (es : List (Dot × X)) (f : Dot × X)
      (rest : List (Dot × X))
      → T (below_all dot_cmp e.0 es) → filter (is_above a) es ≡ f ∷ rest
      → is_above (Some f.0) e ≡ false
  first_is_above a e [] f rest low h = absurd (nothing h)
    where
      nothing : ¬ ([] ≡ f ∷ rest)
      nothing h = cc
  first_is_above a e (x ∷ es) f rest low h =
      elim (is_above a x) as
      (λ t. cond t (x ∷ filter (is_above a) es) (filter (is_above a) es) ≡ f ∷ rest
      → is_above (Some f.0) e ≡ false) [
        | true ↦ λ k. let same : x ≡ f = heads k in
            subst (λ (y : Dot × X). is_lt (dot_cmp y.0 e.0) ≡ false) same
            (ap is_lt
            (dot_cmp_total.antisymm x.0 e.0 ∙ ap ordering_reverse (less _ (both _ _ low).0)))
        | false ↦ first_is_above a e es f rest (both _ _ low).1
      ] h
    where
      heads : {y z : Dot × X} {ys zs : List (Dot × X)} → y ∷ ys ≡ z ∷ zs → y ≡ z
      heads k = cc

  -- what is above the first entry above a dot is the rest of what is above that dot
  walk : (a : Option Dot) (es : List (Dot × X)) (f : Dot × X) (rest : List (Dot × X))
      → T (map.is_sorted dot_cmp es) → filter (is_above a) es ≡ f ∷ rest
      → filter (is_above (Some f.0)) es ≡ rest
  walk a [] f rest sorted h = absurd (nothing h)
    where
      nothing : ¬ ([] ≡ f ∷ rest)
      nothing h = cc
  walk a (e ∷ es) f rest sorted h =
      let s = both _ _ sorted in
      elim (is_above a e) as
      (λ t. is_above a e ≡ t
      → cond t (e ∷ filter (is_above a) es) (filter (is_above a) es) ≡ f ∷ rest
      → filter (is_above (Some f.0)) (e ∷ es) ≡ rest) [
        | true ↦ λ t k.
            let same : e ≡ f = heads k in
            subst (λ (y : Dot × X). filter (is_above (Some y.0)) (e ∷ es) ≡ rest) same
            (ap (λ o. cond (is_lt o) (e ∷ filter (is_above (Some e.0)) es)
            (filter (is_above (Some e.0)) es)) (tied_itself dot_cmp_total e.0)
            ∙ keeps_low es s.0 ∙ sym (keeps_all a e es t s.0) ∙ tails k)
        | false ↦ λ t k.
            ap (λ t. cond t (e ∷ filter (is_above (Some f.0)) es) (filter (is_above (Some f.0)) es))
            (first_is_above a e es f rest s.0 k)
            ∙ walk a es f rest s.1 k
      ] refl h
    where
      heads : {y z : Dot × X} {ys zs : List (Dot × X)} → y ∷ ys ≡ z ∷ zs → y ≡ z
      heads k = cc

      tails : {y z : Dot × X} {ys zs : List (Dot × X)} → y ∷ ys ≡ z ∷ zs → ys ≡ zs
      tails k = cc

      keeps_low : (xs : List (Dot × X)) → T (below_all dot_cmp e.0 xs)
          → filter (is_above (Some e.0)) xs ≡ xs
      keeps_low [] low = refl
      keeps_low (x ∷ xs) low =
          ap (λ t. cond t (x ∷ filter (is_above (Some e.0)) xs) (filter (is_above (Some e.0)) xs))
          (is_true _ (both _ _ low).0)
          ∙ ap (λ l. x ∷ l) (keeps_low xs (both _ _ low).1)

  -- a walk that goes on from the fact that it returned sees each fact once, and ends
  pub above_next : (F : map.FinMap dot_cmp X) (a : Option Dot) (f : Dot × X) (rest : List (Dot × X))
      → above F a ≡ f ∷ rest → above F (Some f.0) ≡ rest
  above_next F a f rest h = walk a (map.entries F) f rest (map.entries_sorted F) h

  -- all entries are above no dot
  pub above_none : (F : map.FinMap dot_cmp X) → above F None ≡ map.entries F
  above_none F = all (map.entries F)
    where
      all : (es : List (Dot × X)) → filter (is_above None) es ≡ es
      all [] = refl
      all (e ∷ es) = ap (λ l. e ∷ l) (all es)

  -- a list with a first entry is that entry and a rest
  first_is : (es : List (Dot × X)) (f : Dot × X) → slice_get es 0 ≡ Some f
      → (rest : List (Dot × X)) × (es ≡ f ∷ rest)
  first_is [] f h = absurd (nothing h)
    where
      nothing : ¬ (None ≡ Some f)
      nothing h = cc
  first_is (e ∷ es) f h = (es, ap (λ x. x ∷ es) (somes h))
    where
      somes : {x y : Dot × X} → Some x ≡ Some y → x ≡ y
      somes k = cc

  -- what is above a dot is its first, and what is above that
  pub goes_on : (F : map.FinMap dot_cmp X) (a : Option Dot) (f : Dot × X)
      → slice_get (above F a) 0 ≡ Some f → above F a ≡ f ∷ above F (Some f.0)
  goes_on F a f h =
      let r : (rest : List (Dot × X)) × (above F a ≡ f ∷ rest) = first_is (above F a) f h in
      r.1 ∙ ap (λ l. f ∷ l) (sym (above_next F a f r.0 r.1))

  -- a list without a first entry is empty
  none_left : (es : List (Dot × X)) → slice_get es 0 ≡ None → es ≡ []
  none_left [] h = refl
  none_left (e ∷ es) h = absurd (nothing h)
    where
      nothing : ¬ (Some e ≡ None)
      nothing h = cc

  -- nothing is above a dot that has no first above it
  pub at_end : (F : map.FinMap dot_cmp X) (a : Option Dot) → slice_get (above F a) 0 ≡ None
      → above F a ≡ []
  at_end F a h = none_left (above F a) h

  -- one call of the walk returns the next fact and leaves the rest
  pub steps_on : (F : map.FinMap dot_cmp X) (a : Option Dot) (now new : List (Dot × X)) (d : Dot)
      (f : Dot × X)
      → above F a ≡ now → slice_get (above F a) 0 ≡ Some f → d ≡ f.0 → new ≡ above F (Some d)
      → now ≡ f ∷ new
  steps_on F a now new d f old here same after =
      sym old ∙ goes_on F a f here ∙ ap (λ (e : Dot). f ∷ above F (Some e)) (sym same)
      ∙ ap (λ l. f ∷ l) (sym after)

  -- a list that begins with nothing is empty
  pub none_on : (F : map.FinMap dot_cmp X) (a : Option Dot) (now : List (Dot × X)) → above F a ≡ now
      → slice_get (above F a) 0 ≡ None → now ≡ []
  none_on F a now old h = sym old ∙ at_end F a h

-- ---- walking the facts among slots

-- the fact that a step of the walk returns is the first above
abbrev pub IsFirstHeld : SlotRef → Option (Dot × Body) → Type 0
IsFirstHeld (ref.Held f) o = Some f.now ≡ o
IsFirstHeld ref.Skipped o = Unit {0}

-- a step over slots finds the first fact, if the slot has one
pub step_held : (S : Slots) (place after : Option Dot) (d : Dot) (r : SlotRef)
    → above (held_in S) place ≡ above (held_in S) after → IsStep S place d r
    → IsFirstHeld r (slice_get (above (held_in S) after) 0)
step_held S place after d (ref.Held f) same step =
    sym step ∙ ap (λ (l : List (Dot × Body)). slice_get l 0) same
step_held S place after d ref.Skipped same step = tt

-- a walk that ends over slots ends over facts
pub none_held : (S : Slots) (place after : Option Dot)
    → above (held_in S) place ≡ above (held_in S) after → above (held_in S) place ≡ []
    → ◌≡◌ {A = Option (Dot × Body)} None (slice_get (above (held_in S) after) 0)
none_held S place after same out =
    sym (ap (λ (l : List (Dot × Body)). slice_get l 0) (sym same ∙ out))
