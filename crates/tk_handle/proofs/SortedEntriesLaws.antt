-- A list of entries whose keys rise: what a binary search finds in it, and what an edit at that
-- place leaves.
--   searched             what a binary search by key ends with
--   get_at_place         the entry at the key's place is the map's
--   sorted_at_gap        a new entry at its gap keeps the order
--   sorted_at_place      a new value at its place keeps the order
use Rattle.std.proofs.Common.{◌≡◌, ℕ, zero, suc, ◌<◌, ◌≤◌, Bool, true, false, cond, ◌&&◌, T, List}
use Rattle.std.proofs.Common.{[], ◌∷◌, length, get_or, set, Some, None, Result, Ok, Err, refl, sym}
use Rattle.std.proofs.Common.{ap, subst, ◌∙◌, arith, ◌⊎◌, inl, inr}
use Rattle.std.proofs.lemmas.Bool.{cases_lt}
use Rattle.std.specs.List.{insert}
use Rattle.std.specs.List.Sorted.{IsSearchInRange, IsBinarySearchResult, IsNonDecreasingBy}
use Rattle.std.specs.Result.{MatchResult}
use Rattle.std.specs.declared.cmp.Ordering.{Ordering}
use Rattle.std.specs.declared.cmp.Ordering.TheVariants.{Less, Equal, Greater}
use Rattle.std.specs.Ordering.{is_eq, ordering_reverse, ordering_index}
use Rattle.std.specs.Cmp.{IsTotalOrder}
use Rattle.std.proofs.lemmas.Cmp.{alike_right}
use Rattle.std.specs.FinMap as map
use Rattle.std.specs.FinMap.{find, put, is_sorted, get, from_sorted, get-from_sorted}
use Rattle.std.specs.FinMap.{entries-from_sorted, entries-insert, same_entries_map}
use Rattle.tk_handle.specs.SortedEntries.{IsAt, IsGap}
use Rattle.std.specs.FinMap.Entries.{by_order, below_all, is_sorted-put}
use Rattle.tk_handle.proofs.TestLaws.{lesser as less}

-- a place that is at most another is the other, or below
at_or_below : (i j : ℕ) → i ≤ j → (i ≡ j) ⊎ (i < j)
at_or_below i j le = elim (cases_lt i j) [ inl lt ↦ inr lt | inr ge ↦ inl (omega arith) ]

-- the first of two tests that both hold holds
left : (a b : Bool) → T (a && b) → T a
left true b p = tt
left false b p = p

-- the second of two tests that both hold holds
right : (a b : Bool) → T (a && b) → T b
right true b p = p
right false b p = absurd p

module _ {K : Type 0} {R : K → K → Ordering} (total : IsTotalOrder R) where
  -- if one key is less than another, that one is greater
  turned_greater : (x y : K) → R x y ≡ Less → R y x ≡ Greater
  turned_greater x y h = total.antisymm y x ∙ ap ordering_reverse h

  -- if one key is greater than another, that one is less
  turned_less : (x y : K) → R x y ≡ Greater → R y x ≡ Less
  turned_less x y h = total.antisymm y x ∙ ap ordering_reverse h

  -- a tie goes both ways
  pub turned_equal : (x y : K) → R x y ≡ Equal → R y x ≡ Equal
  turned_equal x y h = total.antisymm y x ∙ ap ordering_reverse h

  -- keys that rise compare with k in rising order
  index_rises : (x y k : K) → R x y ≡ Less → ordering_index (R x k) ≤ ordering_index (R y k)
  index_rises x y k h =
      elim (R y k) as (λ o. R y k ≡ o → ordering_index (R x k) ≤ ordering_index o) [
        | Less ↦
            λ e. let f : ordering_index (R x k) ≡ 0 = ap ordering_index (total.trans x y k h e) in
            omega arith
        | Equal ↦ λ e. let f : ordering_index (R x k) ≡ 0 =
            ap ordering_index (sym (alike_right total y k x e) ∙ h) in omega arith
        | Greater ↦ λ e. at_most_two (R x k)
      ] refl
    where
      at_most_two : (o : Ordering) → ordering_index o ≤ 2
      at_most_two Less = omega arith
      at_most_two Equal = omega arith
      at_most_two Greater = omega arith

module _ {K X : Type 0} (R : K → K → Ordering) where
  -- a new key goes at the gap
  pub put_at_gap : (k : K) (v : X) (es : List (K × X)) (i : ℕ) → i ≤ length es
      → ((j : ℕ) (d : K × X) → j < i → R k (get_or es j d).0 ≡ Greater)
      → ((j : ℕ) (d : K × X) → i ≤ j → j < length es → R k (get_or es j d).0 ≡ Less)
      → put R k v es ≡ insert es i (k, v)
  put_at_gap k v [] zero within below above = refl
  put_at_gap k v [] (suc i) within below above = absurd (omega arith)
  put_at_gap k v (e ∷ es) zero within below above =
      ap (λ o. by_order o ((k, v) ∷ e ∷ es) ((e.0, v) ∷ es) (e ∷ put R k v es))
      (above 0 e (omega arith) (omega arith))
  put_at_gap k v (e ∷ es) (suc i) within below above =
      ap (λ o. by_order o ((k, v) ∷ e ∷ es) ((e.0, v) ∷ es) (e ∷ put R k v es))
      (below 0 e (omega arith))
      ∙ ap (λ rest. e ∷ rest)
      (put_at_gap k v es i (omega arith) (λ j d lt. below (suc j) d (omega arith))
      (λ j d le lt. above (suc j) d (omega arith) (omega arith)))

  -- a key with a gap is not found
  pub find_at_gap : (k : K) (es : List (K × X)) (i : ℕ)
      → ((j : ℕ) (d : K × X) → j < i → R k (get_or es j d).0 ≡ Greater)
      → ((j : ℕ) (d : K × X) → i ≤ j → j < length es → R k (get_or es j d).0 ≡ Less)
      → find R k es ≡ None
  find_at_gap k [] i below above = refl
  find_at_gap k (e ∷ es) zero below above =
      ap (λ o. cond (is_eq o) (Some e.1) (find R k es)) (above 0 e (omega arith) (omega arith))
      ∙ find_at_gap k es zero (λ j d lt. absurd (omega arith))
      (λ j d le lt. above (suc j) d (omega arith) (omega arith))
  find_at_gap k (e ∷ es) (suc i) below above =
      ap (λ o. cond (is_eq o) (Some e.1) (find R k es)) (below 0 e (omega arith))
      ∙ find_at_gap k es i (λ j d lt. below (suc j) d (omega arith))
      (λ j d le lt. above (suc j) d (omega arith) (omega arith))

  -- a key is found at its place
  pub find_at_place : (k : K) (es : List (K × X)) (i : ℕ) → i < length es
      → ((j : ℕ) (d : K × X) → j < i → R k (get_or es j d).0 ≡ Greater)
      → ((d : K × X) → R k (get_or es i d).0 ≡ Equal)
      → (d : K × X) → find R k es ≡ Some (get_or es i d).1
  find_at_place k [] i within below here d = absurd (omega arith)
  find_at_place k (e ∷ es) zero within below here d =
      ap (λ o. cond (is_eq o) (Some e.1) (find R k es)) (here d)
  find_at_place k (e ∷ es) (suc i) within below here d =
      ap (λ o. cond (is_eq o) (Some e.1) (find R k es)) (below 0 e (omega arith))
      ∙ find_at_place k es i (omega arith) (λ j d lt. below (suc j) d (omega arith)) here d

  -- a value put at the key's place replaces the value before
  pub put_at_place : (k : K) (v : X) (es : List (K × X)) (i : ℕ) → i < length es
      → ((j : ℕ) (d : K × X) → j < i → R k (get_or es j d).0 ≡ Greater)
      → ((d : K × X) → R k (get_or es i d).0 ≡ Equal)
      → (d : K × X) → put R k v es ≡ set es i ((get_or es i d).0, v)
  put_at_place k v [] i within below here d = absurd (omega arith)
  put_at_place k v (e ∷ es) zero within below here d =
      ap (λ o. by_order o ((k, v) ∷ e ∷ es) ((e.0, v) ∷ es) (e ∷ put R k v es)) (here d)
  put_at_place k v (e ∷ es) (suc i) within below here d =
      ap (λ o. by_order o ((k, v) ∷ e ∷ es) ((e.0, v) ∷ es) (e ∷ put R k v es))
      (below 0 e (omega arith))
      ∙ ap (λ rest. e ∷ rest)
      (put_at_place k v es i (omega arith) (λ j d lt. below (suc j) d (omega arith)) here d)

  -- a key below all entries is below the entry at each index
  below_by_index : (x : K) (es : List (K × X)) → T (below_all R x es) → (j : ℕ) (d : K × X)
      → j < length es → R x (get_or es j d).0 ≡ Less
  below_by_index x [] h j d lt = absurd (omega arith)
  below_by_index x (e ∷ es) h zero d lt = less _ (left _ _ h)
  below_by_index x (e ∷ es) h (suc j) d lt = below_by_index x es (right _ _ h) j d (omega arith)

  -- the keys rise by index
  pub rises : (es : List (K × X)) → T (is_sorted R es) → (i j : ℕ) (d : K × X) → i < j
      → j < length es → R (get_or es i d).0 (get_or es j d).0 ≡ Less
  rises [] h i j d lt within = absurd (omega arith)
  rises (e ∷ es) h i zero d lt within = absurd (omega arith)
  rises (e ∷ es) h zero (suc j) d lt within = below_by_index e.0 es (left _ _ h) j d (omega arith)
  rises (e ∷ es) h (suc i) (suc j) d lt within =
      rises es (right _ _ h) i j d (omega arith) (omega arith)

  module _ (total : IsTotalOrder R) where
    -- along sorted entries, the comparison with a key never falls
    comparisons_rise : (es : List (K × X)) → T (is_sorted R es) → (k : K)
        → IsNonDecreasingBy (λ e. ordering_index (R e.0 k)) es
    comparisons_rise es sorted k i j d le within =
        elim (at_or_below i j le) [
          | inl same ↦ subst (λ n.
              ordering_index (R (get_or es i d).0 k) ≤ ordering_index (R (get_or es n d).0 k)) same
              (omega arith)
          | inr lt ↦ index_rises total _ _ k (rises es sorted i j d lt within)
        ]

    -- what a binary search by key ends with
    pub searched : (es : List (K × X)) → T (is_sorted R es) → (k : K) (r : Result ℕ ℕ)
        → IsSearchInRange r (length es) → IsBinarySearchResult (λ e. R e.0 k) es r
        → MatchResult r (IsAt R es k) (IsGap R es k)
    searched es sorted k (Ok i) within here =
        let below : (j : ℕ) (d : K × X) → j < i → R k (get_or es j d).0 ≡ Greater =
        λ j d lt. turned_greater total _ k
        (sym (alike_right total _ _ _ (here d)) ∙ rises es sorted j i d lt within) in
        let same : (d : K × X) → R k (get_or es i d).0 ≡ Equal =
        λ d. turned_equal total _ k (here d) in
        let above : (j : ℕ) (d : K × X) → i < j → j < length es → R k (get_or es j d).0 ≡ Less =
        λ j d lt fits.
        turned_less total _ k
        (sym (alike_right total _ _ _ (here d))
        ∙ turned_greater total _ _ (rises es sorted i j d lt fits)) in
        record {
          in_range = within;
          tied = here;
          found = find_at_place k es i within below same;
          replaced = λ v d. put_at_place k v es i within below same d;
          below = below;
          above = above;
        }
    searched es sorted k (Err i) within parted =
        let p = parted (comparisons_rise es sorted k) in
        let below : (j : ℕ) (d : K × X) → j < i → R k (get_or es j d).0 ≡ Greater =
        λ j d lt. turned_greater total _ k (p.0 j d (omega arith) lt) in
        let above : (j : ℕ) (d : K × X) → i ≤ j → j < length es → R k (get_or es j d).0 ≡ Less =
        λ j d le lt. turned_less total _ k (p.1 j d le lt) in
        record {
          in_range = within;
          absent = find_at_gap k es i below above;
          fits = λ v. put_at_gap k v es i within below above;
          below = below;
          above = above;
        }

module _ {K X : Type 0} {R : K → K → Ordering} (total : IsTotalOrder R) (es : List (K × X))
    (sorted : T (is_sorted R es)) (k : K) where
  -- looking up a key in the map gives the entry at the key's place
  pub get_at_place : (i : ℕ) → IsAt R es k i → (d : K × X)
      → get (from_sorted {R = R} es) k ≡ Some (get_or es i d).1
  get_at_place i at d = get-from_sorted R es k sorted ∙ at.found d

  -- a key in a gap has no value
  pub get_at_gap : (i : ℕ) → IsGap R es k i → get (from_sorted {R = R} es) k ≡ None
  get_at_gap i gap = get-from_sorted R es k sorted ∙ gap.absent

  -- a new entry at its gap keeps the order, and is an insertion into the map
  pub sorted_at_gap : (i : ℕ) → IsGap R es k i → (v : X) → T (is_sorted R (insert es i (k, v)))
  sorted_at_gap i gap v =
      subst (λ fs. T (is_sorted R fs)) (gap.fits v) (is_sorted-put R total k v es sorted)

  -- an entry that is put into its gap is inserted
  pub insert_at_gap : (i : ℕ) → IsGap R es k i → (v : X)
      → from_sorted {R = R} (insert es i (k, v)) ≡ map.insert (from_sorted es) k v
  insert_at_gap i gap v = same_entries_map _ _
      (entries-from_sorted R _ (sorted_at_gap i gap v) ∙ sym (gap.fits v)
      ∙ ap (put R k v) (sym (entries-from_sorted R es sorted)) ∙ sym (entries-insert total _ k v))

  -- a new value at the key's place keeps the order, and is an insertion into the map
  pub sorted_at_place : (i : ℕ) → IsAt R es k i → (v : X) (d : K × X)
      → T (is_sorted R (set es i ((get_or es i d).0, v)))
  sorted_at_place i at v d =
      subst (λ fs. T (is_sorted R fs)) (at.replaced v d) (is_sorted-put R total k v es sorted)

  -- an entry that takes the place of its key's is inserted
  pub insert_at_place : (i : ℕ) → IsAt R es k i → (v : X) (d : K × X)
      → from_sorted {R = R} (set es i ((get_or es i d).0, v)) ≡ map.insert (from_sorted es) k v
  insert_at_place i at v d = same_entries_map _ _
      (entries-from_sorted R _ (sorted_at_place i at v d) ∙ sym (at.replaced v d)
      ∙ ap (put R k v) (sym (entries-from_sorted R es sorted)) ∙ sym (entries-insert total _ k v))

-- the empty list makes the empty map
pub from_sorted_nil : {K X : Type 0} (R : K → K → Ordering)
    → from_sorted {X = X} {R = R} [] ≡ map.empty
from_sorted_nil R = map.empty_of_len _ (map.len-entries _ ∙ ap length (entries-from_sorted R [] tt))
