-- What a search for facts that a vector does not cover may pass over. Key results:
--   seeks_one, seeks_past, seeks_none   one step of the search
--   Found                               what is found and what is still to be found are all
use Rattle.std.proofs.Common.{◌≡◌, ℕ, ◌<◌, ◌≤◌, Bool, true, false, ◌&&◌, not, cond}
use Rattle.std.proofs.Common.{nat_le, List, [], ◌∷◌, ◌++◌, map, filter, length, slice_get}
use Rattle.std.proofs.Common.{Option, Some, None, refl, sym, ap, subst, ◌∙◌, arith}
use Rattle.std.proofs.lemmas.Bool.{true≢false}
use Rattle.std.proofs.lemmas.Bool.Decides.{nat_tests}
use Rattle.std.specs.Ordering.{is_lt}
use Rattle.tk_handle.specs.declared.dot.Dot.{Dot}
use Rattle.tk_handle.specs.Dot.{dot_cmp}
use Rattle.tk_vector.specs.VersionVector.{Vector, entry}
use Rattle.std.specs.FinMap as sets
use Rattle.tk_store.specs.FactSet.{dot_of}
use Rattle.tk_store.specs.Slots.{Slot, Slots}
use Rattle.tk_store.specs.Beyond.{is_beyond, beyond}
use Rattle.tk_store.specs.Walk.{is_above, above}
use Rattle.tk_store.specs.Seeking.{SeeksAt, GoesOn}
use Rattle.tk_store.proofs.WalkLaws.{goes_on, at_end}

-- two tests that agree on the elements that a third test keeps, keep the same of them
same_kept : {X : Type 0} (p q r : X → Bool) (es : List X) → ((x : X) → (q x && p x) ≡ (r x && p x))
    → filter p (filter q es) ≡ filter p (filter r es)
same_kept p q r [] h = refl
same_kept p q r (e ∷ es) h = by_tests (same_kept p q r es h) (p e) (q e) (r e) refl (h e)
  where
    by_tests : filter p (filter q es) ≡ filter p (filter r es) → (a b c : Bool) → p e ≡ a
        → (b && a) ≡ (c && a)
        → filter p (cond b (e ∷ filter q es) (filter q es))
        ≡ filter p (cond c (e ∷ filter r es) (filter r es))
    by_tests rest true true true is k = ap (λ t.
        cond t (e ∷ filter p (filter q es)) (filter p (filter q es))) is
        ∙ ap (λ l. e ∷ l) rest
        ∙ sym (ap (λ t. cond t (e ∷ filter p (filter r es)) (filter p (filter r es))) is)
    by_tests rest true true false is k = absurd (true≢false k)
    by_tests rest true false true is k = absurd (true≢false (sym k))
    by_tests rest true false false is k = rest
    by_tests rest false true true is k = ap (λ t.
        cond t (e ∷ filter p (filter q es)) (filter p (filter q es))) is
        ∙ rest ∙ sym (ap (λ t. cond t (e ∷ filter p (filter r es)) (filter p (filter r es))) is)
    by_tests rest false true false is k =
        ap (λ t. cond t (e ∷ filter p (filter q es)) (filter p (filter q es))) is ∙ rest
    by_tests rest false false true is k =
        rest ∙ sym (ap (λ t. cond t (e ∷ filter p (filter r es)) (filter p (filter r es))) is)
    by_tests rest false false false is k = rest

-- a stricter test keeps no more elements
no_more : {X : Type 0} (p q : X → Bool) (es : List X) → ((x : X) → p x ≡ true → q x ≡ true)
    → length (filter p es) ≤ length (filter q es)
no_more p q [] h = omega arith
no_more p q (e ∷ es) h = by_tests (no_more p q es h) (p e) (q e) (h e)
  where
    by_tests : length (filter p es) ≤ length (filter q es) → (a b : Bool) → (a ≡ true → b ≡ true)
        → length (cond a (e ∷ filter p es) (filter p es))
        ≤ length (cond b (e ∷ filter q es) (filter q es))
    by_tests rest true true k = omega arith
    by_tests rest true false k = absurd (true≢false (sym (k refl)))
    by_tests rest false true k = omega arith
    by_tests rest false false k = rest

-- a vector that covers a region up to a dot j covers all between a dot of the region and j
covered_between : (d j x : Dot) (n : ℕ) → j.region ≡ d.region → d.serial ≤ j.serial
    → (x.region ≡ d.region → n ≡ j.serial)
    → (is_lt (dot_cmp d x) && not (nat_le x.serial n))
    ≡ (is_lt (dot_cmp j x) && not (nat_le x.serial n))
covered_between d j x n same le here = grind (arith, nat_tests)

-- a dot above one of a region is above each dot of that region with no greater serial
above_later : (d j x : Dot) → j.region ≡ d.region → d.serial ≤ j.serial → is_lt (dot_cmp j x) ≡ true
    → is_lt (dot_cmp d x) ≡ true
above_later d j x same le h = grind (arith, nat_tests)

-- a vector doesn't cover a dot with a serial above its entry for the region
beyond_serial : (v : Vector) (f : Dot × Slot) → entry v f.0.region < f.0.serial
    → is_beyond v f ≡ true
beyond_serial v f h = grind (arith, nat_tests)

-- a vector covers a dot with a serial up to its entry for the region
covered_serial : (v : Vector) (f : Dot × Slot) → f.0.serial ≤ entry v f.0.region
    → is_beyond v f ≡ false
covered_serial v f h = grind (arith, nat_tests)

module _ (F : Slots) (v : Vector) (after : Option Dot) (f : Dot × Slot)
    (first : slice_get (above F after) 0 ≡ Some f) where
  -- what is above the cursor is the first fact there and what is above that fact
  went_on : above F after ≡ f ∷ above F (Some f.0)
  went_on = goes_on F after f first

  -- fewer facts are above the first fact than above the cursor
  fewer : length (above F (Some f.0)) < length (above F after)
  fewer = let more = ap length went_on in omega arith

  -- a first fact that the vector doesn't cover is the next of the search
  seeks_one : entry v f.0.region < f.0.serial
      → map dot_of (beyond F v after) ≡ f.0 ∷ map dot_of (beyond F v (Some f.0))
  seeks_one free =
      ap (λ l. map dot_of (filter (is_beyond v) l)) went_on
      ∙ ap (λ t. map dot_of (cond t (f ∷ beyond F v (Some f.0)) (beyond F v (Some f.0))))
      (beyond_serial v f free)

  module _ (j : Dot) (same : j.region ≡ f.0.region) (le : f.0.serial ≤ j.serial) where
    -- fewer facts are above a dot at or after the first fact than above the cursor
    fewer_past : length (above F (Some j)) < length (above F after)
    fewer_past =
        let less : length (above F (Some j)) ≤ length (above F (Some f.0)) =
        no_more (is_above (Some j)) (is_above (Some f.0)) (sets.entries F)
        (λ x. above_later f.0 j x.0 same le) in
        let more = fewer in
        omega arith

    -- facts up to the vector's entry of their region may be passed over
    seeks_past : j.serial ≡ entry v f.0.region
        → map dot_of (beyond F v after) ≡ map dot_of (beyond F v (Some j))
    seeks_past is =
        ap (λ l. map dot_of (filter (is_beyond v) l)) went_on
        ∙ ap (λ t. map dot_of (cond t (f ∷ beyond F v (Some f.0)) (beyond F v (Some f.0))))
        (covered_serial v f (omega arith))
        ∙ ap (map dot_of)
        (same_kept (is_beyond v) (is_above (Some f.0)) (is_above (Some j)) (sets.entries F)
        (λ x. covered_between f.0 j x.0 (entry v x.0.region) same le
        (λ here. ap (entry v) here ∙ sym is)))

  -- the search goes on to the next dot, and is nearer to its end
  pub seeks : (at : Dot) (is : Bool) → GoesOn v f.0 at is
      → SeeksAt F v after at is × (length (above F (Some at)) < length (above F after))
  seeks at true c = (
    subst (λ (d : Dot). map dot_of (beyond F v after) ≡ d ∷ map dot_of (beyond F v (Some d)))
        (sym c.0) (seeks_one c.1),
    subst (λ (d : Dot). length (above F (Some d)) < length (above F after)) (sym c.0) fewer,
  )
  seeks at false c =
      let region : at.region ≡ f.0.region = ap (λ (d : Dot). d.region) c.0 in
      let serial : at.serial ≡ entry v f.0.region = ap (λ (d : Dot). d.serial) c.0 in
      let le : f.0.serial ≤ at.serial = omega (arith, serial, c.1) in
      (seeks_past at region le serial, fewer_past at region le)

-- a search that finds no next dot has found all
pub seeks_none : (F : Slots) (v : Vector) (after : Option Dot) → slice_get (above F after) 0 ≡ None
    → map dot_of (beyond F v after) ≡ []
seeks_none F v after h = ap (λ l. map dot_of (filter (is_beyond v) l)) (at_end F after h)

-- ---- one step of the search

-- the dots found and those still to be found are all, and no more are found than the limit
pub record Found (F : Slots) (v : Vector) (limit : ℕ) (found : List Dot) (place : Option Dot)
    (all : List Dot) : Type 0 where
  pub whole : found ++ map dot_of (beyond F v place) ≡ all
  pub low : length found ≤ limit
