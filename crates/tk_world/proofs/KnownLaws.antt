-- Two maps that know the same dots have the same dots in everything that is made of dots. Key
-- results:
--   dots_same     the dots of all entries
--   len_same      their number
--   next_same     the next serial of a region
--   beyond_dots   the dots that a vector does not cover
use Rattle.std.proofs.Common.{◌≡◌, ℕ, zero, suc, ◌+◌, ◌-◌, ◌&&◌, ◌==◌, nat_le, not, max, Bool, true}
use Rattle.std.proofs.Common.{false, cond, if◌then◌else◌, T, List, [], ◌∷◌, length, map, filter}
use Rattle.std.proofs.Common.{take, Option, Some, None, option_map, is_some, refl, sym, ap, subst}
use Rattle.std.proofs.Common.{◌∙◌}
use Rattle.std.specs.Ordering.{eq_by_cmp, is_lt}
use Rattle.std.specs.FinMap as sets
use Rattle.std.specs.FinMap.{find}
use Rattle.std.specs.FinMap.Entries.{below_all}
use Rattle.tk_handle.specs.declared.dot.Dot.{Dot}
use Rattle.tk_handle.specs.Dot.{dot_cmp, dot_cmp_total, dot_cmp-IsAntisymmetric}
use Rattle.tk_vector.specs.VersionVector.{Vector, entry}
use Rattle.tk_store.specs.Beyond.{beyond, is_beyond}
use Rattle.tk_store.specs.FactSet.{dot_of}
use Rattle.tk_store.specs.NextDot.{last_serial, next_serial}
use Rattle.tk_store.specs.Walk.{above, is_above}

-- the dot is above the cursor
abbrev is_past : Option Dot → Dot → Bool
is_past None d = true
is_past (Some q) d = is_lt (dot_cmp q d)

-- the greatest serial of the region among the dots, or 0
abbrev last_of_dots : ℕ → List Dot → ℕ
last_of_dots r [] = 0
last_of_dots r (d ∷ ds) = max (if d.region == r then d.serial else 0) (last_of_dots r ds)

-- the vector does not cover the dot
abbrev is_uncovered : Vector → Dot → Bool
is_uncovered v d = not (nat_le d.serial (entry v d.region))

-- one value in place of every value
abbrev naught : {X : Type 0} → X → ℕ
naught x = 0

-- an entry without its value
abbrev bare : {X : Type 0} → Dot × X → Dot × ℕ
bare e = (e.0, 0)

module _ {X : Type 0} where
  -- a dot is below all bare entries exactly if it is below all entries
  below_bare : (d : Dot) (es : List (Dot × X))
      → below_all dot_cmp d (map bare es) ≡ below_all dot_cmp d es
  below_bare d [] = refl
  below_bare d (e ∷ es) = ap (λ b. is_lt (dot_cmp d e.0) && b) (below_bare d es)

  -- bare entries are sorted exactly if the entries are
  sorted_bare : (es : List (Dot × X))
      → sets.is_sorted dot_cmp (map bare es) ≡ sets.is_sorted dot_cmp es
  sorted_bare [] = refl
  sorted_bare (e ∷ es) = ap (λ b. b && sets.is_sorted dot_cmp (map bare es)) (below_bare e.0 es)
      ∙ ap (λ b. below_all dot_cmp e.0 es && b) (sorted_bare es)

  -- a dot is found among bare entries exactly if the dot is found among the entries
  find_bare : (q : Dot) (es : List (Dot × X))
      → find dot_cmp q (map bare es) ≡ option_map naught (find dot_cmp q es)
  find_bare q [] = refl
  find_bare q (e ∷ es) =
      elim (eq_by_cmp dot_cmp q e.0) as
      (λ t. cond t (Some 0) (find dot_cmp q (map bare es))
      ≡ option_map naught (cond t (Some e.1) (find dot_cmp q es))) [
        | true ↦ refl
        | false ↦ find_bare q es
      ]

  -- the map without its values
  abbrev known_of : sets.FinMap dot_cmp X → sets.FinMap dot_cmp ℕ
  known_of m = sets.from_sorted (map bare (sets.entries m))

  -- the entries of the known dots are the bare entries of the map
  entries_known : (m : sets.FinMap dot_cmp X)
      → sets.entries (known_of m) ≡ map bare (sets.entries m)
  entries_known m = sets.entries-from_sorted dot_cmp _
      (subst T (sym (sorted_bare (sets.entries m))) (sets.entries_sorted m))

  -- the known dots have a dot exactly if the map does
  get_known : (m : sets.FinMap dot_cmp X) (q : Dot)
      → sets.get (known_of m) q ≡ option_map naught (sets.get m q)
  get_known m q = sets.get-entries (known_of m) q ∙ ap (find dot_cmp q) (entries_known m)
      ∙ find_bare q (sets.entries m) ∙ ap (option_map naught) (sym (sets.get-entries m q))

  -- bare entries have the dots of the entries
  dots_bare : (es : List (Dot × X)) → map dot_of (map bare es) ≡ map dot_of es
  dots_bare [] = refl
  dots_bare (e ∷ es) = ap (λ (l : List Dot). e.0 ∷ l) (dots_bare es)

  -- there are as many dots as entries
  pub length_dots : (es : List (Dot × X)) → length (map dot_of es) ≡ length es
  length_dots [] = refl
  length_dots (e ∷ es) = ap suc (length_dots es)

  -- the dots of the entries that pass a test on dots are the dots that pass
  filter_dots : (p : Dot × X → Bool) (t : Dot → Bool) → ((e : Dot × X) → p e ≡ t e.0)
      → (es : List (Dot × X)) → map dot_of (filter p es) ≡ filter t (map dot_of es)
  filter_dots p t same [] = refl
  filter_dots p t same (e ∷ es) =
      ap (λ b. map dot_of (cond b (e ∷ filter p es) (filter p es))) (same e)
      ∙ elim (t e.0) as
      (λ b. map dot_of (cond b (e ∷ filter p es) (filter p es))
      ≡ cond b (e.0 ∷ filter t (map dot_of es)) (filter t (map dot_of es))) [
        | true ↦ ap (λ (l : List Dot). e.0 ∷ l) (filter_dots p t same es)
        | false ↦ filter_dots p t same es
      ]

  -- the dots of the first entries are the first dots
  pub take_dots : (k : ℕ) (es : List (Dot × X)) → map dot_of (take k es) ≡ take k (map dot_of es)
  take_dots zero es = refl
  take_dots (suc k) [] = refl
  take_dots (suc k) (e ∷ es) = ap (λ (l : List Dot). e.0 ∷ l) (take_dots k es)

  -- an entry is above a dot exactly if its dot is past that dot
  past_is : (after : Option Dot) (e : Dot × X) → is_above after e ≡ is_past after e.0
  past_is None e = refl
  past_is (Some q) e = refl

  -- the dots that the vector does not cover are those of the map that pass two tests
  beyond_filtered : (m : sets.FinMap dot_cmp X) (v : Vector) (after : Option Dot)
      → map dot_of (beyond m v after)
      ≡ filter (is_uncovered v) (filter (is_past after) (map dot_of (sets.entries m)))
  beyond_filtered m v after =
      filter_dots (is_beyond v) (is_uncovered v) (λ e. refl) (above m after)
      ∙ ap (filter (is_uncovered v))
      (filter_dots (is_above after) (is_past after) (past_is after) (sets.entries m))

  -- the last serial of a region is the last among the dots
  last_dots : (r : ℕ) (es : List (Dot × X)) → last_serial r es ≡ last_of_dots r (map dot_of es)
  last_dots r [] = refl
  last_dots r (e ∷ es) = ap (max (if e.0.region == r then e.0.serial else 0)) (last_dots r es)

-- the two maps know the same dots
abbrev pub SameDots : {X Y : Type 0} → sets.FinMap dot_cmp X → sets.FinMap dot_cmp Y → Type 0
SameDots m n = (q : Dot) → is_some (sets.get m q) ≡ is_some (sets.get n q)

module _ {X Y : Type 0} (m : sets.FinMap dot_cmp X) (n : sets.FinMap dot_cmp Y)
    (same : SameDots m n) where
  -- two options of which both or neither are Some are the same without their values
  zero_as : (o : Option X) (p : Option Y) → is_some o ≡ is_some p
      → option_map naught o ≡ option_map naught p
  zero_as None None h = refl
  zero_as None (Some y) h = cc
  zero_as (Some x) None h = cc
  zero_as (Some x) (Some y) h = refl

  -- maps that know the same dots have the same known dots
  known_same : known_of m ≡ known_of n
  known_same = sets.same_map dot_cmp_total dot_cmp-IsAntisymmetric _ _
      (λ q. get_known m q ∙ zero_as (sets.get m q) (sets.get n q) (same q) ∙ sym (get_known n q))

  -- two maps that know the same dots have the same dots in order
  pub dots_same : map dot_of (sets.entries m) ≡ map dot_of (sets.entries n)
  dots_same =
      sym (dots_bare (sets.entries m))
      ∙ ap (map dot_of) (sym (entries_known m) ∙ ap sets.entries known_same ∙ entries_known n)
      ∙ dots_bare (sets.entries n)

  -- two maps that know the same dots have equally many entries
  pub len_same : sets.len m ≡ sets.len n
  len_same = sets.len-entries m ∙ sym (length_dots (sets.entries m)) ∙ ap length dots_same
      ∙ length_dots (sets.entries n) ∙ sym (sets.len-entries n)

  -- two maps that know the same dots give a region the same next serial
  pub next_same : (r : ℕ) → next_serial m r ≡ next_serial n r
  next_same r = ap (λ x. x + 1)
      (last_dots r (sets.entries m) ∙ ap (last_of_dots r) dots_same
      ∙ sym (last_dots r (sets.entries n)))

  -- two maps that know the same dots have the same dots beyond a vector and a cursor
  pub beyond_dots : (v : Vector) (after : Option Dot)
      → map dot_of (beyond m v after) ≡ map dot_of (beyond n v after)
  beyond_dots v after =
      beyond_filtered m v after
      ∙ ap (λ (ds : List Dot). filter (is_uncovered v) (filter (is_past after) ds)) dots_same
      ∙ sym (beyond_filtered n v after)
