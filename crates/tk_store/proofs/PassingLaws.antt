-- A walk over the facts of a table passes over marks. Key results:
--   passes_on    a step goes to a dot above, with no fact in between
--   passes_out   without a step, no fact is above
use Rattle.std.proofs.Common.{◌≡◌, ℕ, ◌+◌, ◌-◌, ◌<◌, ◌≤◌, Bool, true, false, cond, if◌then◌else◌}
use Rattle.std.proofs.Common.{List, [], ◌∷◌, filter, length, Option, Some, None, option_map}
use Rattle.std.proofs.Common.{slice_get, refl, sym, ap, subst, ◌∙◌, inl, inr, arith}
use mathlib.Core.Bool.{false≢true}
use Rattle.std.proofs.lemmas.Bool.{cases_Bool, cond-false}
use Rattle.std.proofs.lemmas.Bool.Decides.{nat_tests}
use Rattle.std.proofs.lemmas.Cmp.{tied_itself}
use Rattle.std.specs.Ordering.{eq_by_cmp, is_lt}
use Rattle.std.specs.FinMap as sets
use Rattle.std.specs.FinMap.{find}
use Rattle.tk_handle.specs.declared.dot.Dot.{Dot}
use Rattle.tk_handle.specs.Dot.{dot_cmp, dot_cmp_total}
use Rattle.tk_dots.specs.Marks.{Passes}
use Rattle.tk_dots.specs.Pages.{IsAbove}
use Rattle.tk_fact.specs.declared.body.Body.{Body}
use Rattle.tk_store.specs.declared.slot.SlotRef.{SlotRef}
use Rattle.tk_store.specs.declared.slot.SlotRef.TheVariants as ref
use Rattle.tk_store.specs.FactSet.{AllIn}
use Rattle.tk_store.specs.Slots.{Slots, Held, Skipped, held_slot, held_in}
use Rattle.tk_store.specs.Table.{Boxed, KeptMap, Shows, slot_of, slots_of, AreHome, PassesOn}
use Rattle.tk_store.specs.Walk.{is_above, above}
use Rattle.tk_store.proofs.EntryLaws.{AllIn-entries}
use Rattle.tk_handle.proofs.TestLaws.{tied}
use Rattle.tk_store.proofs.WalkLaws.{at_end}
use Rattle.tk_store.proofs.SlotLaws.{get_held}
use Rattle.tk_store.proofs.TableLaws.{at}
use Rattle.tk_store.proofs.TableWalkLaws.{first_in, none_in, up_of, up_is}
use Rattle.std.proofs.lemmas.Option.{none-some as none_is_not_some, same_Some as some_injective}

-- a count without an entry that another counts is lower, if no higher on the rest
drops_one : (a b : Bool) (x y n m : ℕ) → a ≡ false → b ≡ true → n ≤ m → x ≡ (if a then n + 1 else n)
    → y ≡ (if b then m + 1 else m) → x < y
drops_one true b x y n m e f le g h = absurd (false≢true (sym e))
drops_one false true x y n m e f le g h = omega (arith, le, g, h)
drops_one false false x y n m e f le g h = absurd (false≢true f)

-- the length of a list behind an entry that a test keeps or drops
length_step : {X : Type 0} (t : Bool) (e : X) (xs : List X)
    → length (cond t (e ∷ xs) xs) ≡ (if t then length xs + 1 else length xs)
length_step true e xs = omega arith
length_step false e xs = refl

-- a count is no higher than one that counts each of its entries, with one entry more
keeps_less : (a b : Bool) (x y n m : ℕ) → (a ≡ true → b ≡ true) → n ≤ m
    → x ≡ (if a then n + 1 else n) → y ≡ (if b then m + 1 else m) → x ≤ y
keeps_less true b x y n m more le g h = (let f = more refl in
    subst (λ (t : Bool). y ≡ (if t then m + 1 else m) → x ≤ y) (sym f)
    (λ k. omega (arith, le, g, k)) h)
keeps_less false true x y n m more le g h = omega (arith, le, g, h)
keeps_less false false x y n m more le g h = omega (arith, le, g, h)

-- a lower count stays lower with an entry more that the higher counts if the lower does
keeps_lower : (a b : Bool) (x y n m : ℕ) → (a ≡ true → b ≡ true) → n < m
    → x ≡ (if a then n + 1 else n) → y ≡ (if b then m + 1 else m) → x < y
keeps_lower true b x y n m more le g h = (let f = more refl in
    subst (λ (t : Bool). y ≡ (if t then m + 1 else m) → x < y) (sym f)
    (λ k. omega (arith, le, g, k)) h)
keeps_lower false true x y n m more le g h = omega (arith, le, g, h)
keeps_lower false false x y n m more le g h = omega (arith, le, g, h)

module _ {X : Type 0} (p q : Dot × X → Bool) (more : (e : Dot × X) → p e ≡ true → q e ≡ true) where
  -- a test keeps at most as many entries as one that passes whenever the first does
  filter_most : (es : List (Dot × X)) → length (filter p es) ≤ length (filter q es)
  filter_most [] = omega arith
  filter_most (e ∷ es) = keeps_less (p e) (q e) _ _ (length (filter p es)) (length (filter q es))
      (more e) (filter_most es) (length_step (p e) e (filter p es))
      (length_step (q e) e (filter q es))

  -- a list that lacks an entry is shorter
  filter_less : (es : List (Dot × X)) (d : Dot) (b : X) → find dot_cmp d es ≡ Some b
      → ((x : X) → q (d, x) ≡ true) → ((x : X) → p (d, x) ≡ false)
      → length (filter p es) < length (filter q es)
  filter_less [] d b here on off = absurd (none_is_not_some b here)
  filter_less (e ∷ es) d b here on off = elim (cases_Bool (eq_by_cmp dot_cmp d e.0)) [
    | inl same ↦ drops_one (p e) (q e) _ _ (length (filter p es)) (length (filter q es))
        (subst (λ (k : Dot). p (k, e.1) ≡ false) (tied d e.0 same) (off e.1))
        (subst (λ (k : Dot). q (k, e.1) ≡ true) (tied d e.0 same) (on e.1)) (filter_most es)
        (length_step (p e) e (filter p es)) (length_step (q e) e (filter q es))
    | inr apart ↦ keeps_lower (p e) (q e) _ _ (length (filter p es)) (length (filter q es)) (more e)
        (filter_less es d b (sym (cond-false _ _ _ apart) ∙ here) on off)
        (length_step (p e) e (filter p es)) (length_step (q e) e (filter q es))
  ]

-- two tests that agree on the entries keep the same
filter_same : {X : Type 0} (F : sets.FinMap dot_cmp X) (p q : Dot × X → Bool) (es : List (Dot × X))
    → AllIn F es → ((d : Dot) (b : X) → sets.get F d ≡ Some b → p (d, b) ≡ q (d, b))
    → filter p es ≡ filter q es
filter_same F p q [] all same = refl
filter_same F p q (e ∷ es) all same =
    ap (λ (t : Bool). cond t (e ∷ filter p es) (filter p es)) (same e.0 e.1 all.0)
    ∙ ap (λ (l : List (Dot × _)). cond (q e) (e ∷ l) l) (filter_same F p q es all.1 same)

-- a dot above one that is past a cursor is past the cursor
above_trans : (a : Option Dot) (d : Dot) → IsAbove a d → (e : Dot) → is_lt (dot_cmp d e) ≡ true
    → IsAbove a e
above_trans None d up e h = tt
above_trans (Some c) d up e h = both_lt c d e up h
  where
    both_lt : (c d e : Dot) → is_lt (dot_cmp c d) ≡ true → is_lt (dot_cmp d e) ≡ true
        → is_lt (dot_cmp c e) ≡ true
    both_lt c d e h i = grind (arith, nat_tests)

-- no dot is below itself
not_itself : (d : Dot) → is_lt (dot_cmp d d) ≡ false
not_itself d = ap is_lt (tied_itself dot_cmp_total d)

module _ (m : KeptMap) (F : Slots) (seen : slots_of m ≡ F) (after : Option Dot) where
  -- a fact that is held is a value of the map
  fact_kept : (q : Dot) (b : Body) → sets.get (held_in F) q ≡ Some b
      → (x : Boxed) × (sets.get m q ≡ Some (Some x)) × (x.value.1 ≡ b)
  fact_kept q b h =
      by_kept (sets.get m q) refl (sym (ap held_slot (at m F seen q)) ∙ sym (get_held F q) ∙ h)
    where
      by_kept : (o : Option (Option Boxed)) → sets.get m q ≡ o
          → held_slot (option_map slot_of o) ≡ Some b
          → (x : Boxed) × (sets.get m q ≡ Some (Some x)) × (x.value.1 ≡ b)
      by_kept None here k = absurd (none_is_not_some b k)
      by_kept (Some None) here k = absurd (none_is_not_some b k)
      by_kept (Some (Some x)) here k = (x, here, some_injective x.value.1 b k)

  -- a walk that passes over all finds no fact above
  pub passes_out : Passes m after None → above (held_in F) after ≡ []
  passes_out next = at_end (held_in F) after
      (none_in after (sets.entries (held_in F)) (sets.entries_sorted (held_in F))
      (λ q c h up.
      (let x = fact_kept q c (sets.get-entries (held_in F) q ∙ h) in
      next q x.0 (up_of after q c up) x.1)))

  -- fewer facts are above a known dot than above a cursor below the dot
  fewer : (d : Dot) (k : Option Boxed) → sets.get m d ≡ Some k → IsAbove after d
      → length (above F (Some d)) < length (above F after)
  fewer d k here up = filter_less (is_above (Some d)) (is_above after)
      (λ e h. up_is after e.0 e.1 (above_trans after d up e.0 h)) (sets.entries F) d (slot_of k)
      (sym (sets.get-entries F d) ∙ at m F seen d ∙ ap (option_map slot_of) here)
      (λ x. up_is after d x up) (λ x. not_itself d)

  -- a walk goes on to the next slot with a fact
  pub passes_on : AreHome m → (d : Dot) (k : Option Boxed) (r : SlotRef)
      → Passes m after (Some (d, k)) → Shows r k → PassesOn F after (Some (d, r))
  passes_on home d (Some b) (ref.Held f) next shows =
      let held : sets.get (held_in F) d ≡ Some b.value.1 =
      get_held F d ∙ ap held_slot (at m F seen d ∙ ap (option_map slot_of) next.0) in
      let first : slice_get (above (held_in F) after) 0 ≡ Some (d, b.value.1) =
      first_in after (sets.entries (held_in F)) d b.value.1 (sets.entries_sorted (held_in F))
      (sym (sets.get-entries (held_in F) d) ∙ held) (up_is after d b.value.1 next.1)
      (λ q c h up.
      (let x = fact_kept q c (sets.get-entries (held_in F) q ∙ h) in
      next.2 q x.0 (up_of after q c up) x.1)) in (
        first ∙ ap (λ (x : Dot). Some (x, b.value.1)) (sym (home d b next.0))
            ∙ ap (λ (x : Dot × Body). Some x) (sym shows),
        fewer d (Some b) next.0 next.1,
      )
  passes_on home d None (ref.Held f) next shows = absurd shows
  passes_on home d (Some b) ref.Skipped next shows = absurd shows
  passes_on home d None ref.Skipped next shows = (
    filter_same (held_in F) (is_above after) (is_above (Some d)) (sets.entries (held_in F))
        (AllIn-entries (held_in F)) same,
    fewer d None next.0 next.1,
  )
    where
      two_nones : (x : Boxed) → Some None ≡ Some (Some x) → ⊥
      two_nones x e = cc

      not_lower : (q : Dot) → is_lt (dot_cmp q d) ≡ false → eq_by_cmp dot_cmp q d ≡ false
          → is_lt (dot_cmp d q) ≡ true
      not_lower q h e = grind (arith, nat_tests)

      same : (q : Dot) (c : Body) → sets.get (held_in F) q ≡ Some c
          → is_above after (q, c) ≡ is_above (Some d) (q, c)
      same q c h =
          let x = fact_kept q c h in
          same_tests (is_above after (q, c)) (is_above (Some d) (q, c))
          (λ up. not_lower q (next.2 q x.0 (up_of after q c up) x.1) (other q x.0 x.1))
          (λ up. up_is after q c (above_trans after d next.1 q up))
        where
          other : (q : Dot) (x : Boxed) → sets.get m q ≡ Some (Some x)
              → eq_by_cmp dot_cmp q d ≡ false
          other q x here = elim (cases_Bool (eq_by_cmp dot_cmp q d)) [
            | inl same ↦
                absurd (two_nones x (sym next.0 ∙ ap (sets.get m) (sym (tied q d same)) ∙ here))
            | inr apart ↦ apart
          ]

          same_tests : (a b : Bool) → (a ≡ true → b ≡ true) → (b ≡ true → a ≡ true) → a ≡ b
          same_tests true b f g = sym (f refl)
          same_tests false true f g = g refl
          same_tests false false f g = refl
