-- The order of version vectors, and what raising entries one after the other leaves. Key results:
--   below_itself, below_trans, below_antisymmetric   `Below` is an order
--   join_of                                          two vectors that agree have a least one above
--                                                    both
--   raised_more, kept_join                           the loop that raises each entry
--   vector_laws                                      what the law function states
use Rattle.std.proofs.Common.{◌≡◌, ℕ, zero, suc, ◌+◌, ◌<◌, ◌≤◌, true, false, cond, max, T, List, []}
use Rattle.std.proofs.Common.{◌∷◌, length, get_or, Option, Some, None, unwrap_or, refl, sym, ap}
use Rattle.std.proofs.Common.{subst, ◌∙◌, arith, inl, inr}
use Rattle.std.proofs.lemmas.Bool.{cases_lt, cases_Bool, cond-true, cond-false}
use Rattle.std.specs.Ordering.{nat_cmp, eq_by_cmp, is_eq, ordering_reverse}
use Rattle.tk_handle.proofs.SortedEntriesLaws.{find_at_place, rises}
use Rattle.std.specs.Cmp.{nat_cmp_total}
use Rattle.std.proofs.lemmas.Cmp.{tied_itself}
use Rattle.std.specs.FinMap as map
use Rattle.tk_vector.specs.VersionVector.{Vector, entry, raised}
use Rattle.tk_vector.specs.VectorOrder.{AtMost, Below, AllAtMost, RaisedBy}
use Rattle.std.specs.Prelude.{⊤}
use Rattle.tk_vector.specs.Join.{IsJoin, JoinLaws}
use Rattle.tk_vector.proofs.VersionVectorLaws.{raised_above, raised_within}
use Rattle.tk_handle.proofs.TestLaws.{equal_of}

-- an entry is at most itself
at_most_itself : (o : Option ℕ) → AtMost o o
at_most_itself None = tt
at_most_itself (Some n) = omega arith

-- an entry is at most another if it is at most one that is at most the other
at_most_trans : (o p q : Option ℕ) → AtMost o p → AtMost p q → AtMost o q
at_most_trans None p q h k = tt
at_most_trans (Some n) None q h k = absurd h
at_most_trans (Some n) (Some m) None h k = absurd k
at_most_trans (Some n) (Some m) (Some l) h k = omega arith

-- entries that are at most each other are equal
at_most_both : (o p : Option ℕ) → AtMost o p → AtMost p o → o ≡ p
at_most_both None None h k = refl
at_most_both None (Some m) h k = absurd k
at_most_both (Some n) None h k = absurd h
at_most_both (Some n) (Some m) h k = ap Some (omega arith)

-- a vector is below itself
pub below_itself : (v : Vector) → Below v v
below_itself v r = at_most_itself (map.get v r)

-- what is below a vector that is below another is below that one
pub below_trans : (u v w : Vector) → Below u v → Below v w → Below u w
below_trans u v w h k r = at_most_trans (map.get u r) (map.get v r) (map.get w r) (h r) (k r)

-- vectors that are below each other are equal
pub below_antisymmetric : (v w : Vector) → Below v w → Below w v → v ≡ w
below_antisymmetric v w h k = map.same_map nat_cmp_total map.nat_cmp-IsAntisymmetric v w
    (λ r. at_most_both (map.get v r) (map.get w r) (h r) (k r))

-- regions that compare as equal are equal
tied : (q r : ℕ) → eq_by_cmp nat_cmp q r ≡ true → q ≡ r
tied q r h = map.nat_cmp-IsAntisymmetric q r (equal_of (nat_cmp q r) h)

-- P holds of what is at region q after an insertion at r, by whether q is r
by_region : (P : Option ℕ → Type 0) (v : Vector) (r n q : ℕ) → (q ≡ r → P (Some n))
    → P (map.get v q) → P (map.get (map.insert v r n) q)
by_region P v r n q here there =
    subst P (sym (map.get-insert nat_cmp_total v r n q))
    (elim (eq_by_cmp nat_cmp q r) as
    (λ t. eq_by_cmp nat_cmp q r ≡ t → P (cond t (Some n) (map.get v q))) [
      | true ↦ λ e. here (tied q r e)
      | false ↦ λ _. there
    ] refl)

-- ---- raising an entry

-- an entry below a number is at most the number
entry_low : (o : Option ℕ) (n : ℕ) → unwrap_or o 0 < n → AtMost o (Some n)
entry_low None n h = tt
entry_low (Some m) n h = omega arith

-- a number above 0 that an entry reaches is at most the entry
entry_high : (o : Option ℕ) (n : ℕ) → 0 < n → n ≤ unwrap_or o 0 → AtMost (Some n) o
entry_high None n some h = absurd (omega arith)
entry_high (Some m) n some h = h

-- a vector is below itself raised
pub raised_keeps : (v : Vector) (r n : ℕ) → Below v (raised v r n)
raised_keeps v r n q = elim (cases_lt (entry v r) n) [
  | inl lt ↦
      subst (λ (w : Vector). AtMost (map.get v q) (map.get w q)) (sym (raised_above v r n lt))
      (by_region (AtMost (map.get v q)) v r n q
      (λ same. entry_low (map.get v q) n (subst (λ (k : ℕ). entry v k < n) (sym same) lt))
      (at_most_itself (map.get v q)))
  | inr ge ↦ subst (λ (w : Vector). AtMost (map.get v q) (map.get w q))
      (sym (raised_within v r n ge)) (at_most_itself (map.get v q))
]

-- a raised vector has at least the number that was given
pub raised_has : (v : Vector) (r n : ℕ) → 0 < n → AtMost (Some n) (map.get (raised v r n) r)
raised_has v r n some = elim (cases_lt (entry v r) n) [
  | inl lt ↦ subst (λ (w : Vector). AtMost (Some n) (map.get w r)) (sym (raised_above v r n lt))
      (subst (AtMost (Some n))
      (sym (map.get-insert nat_cmp_total v r n r
      ∙ ap (λ o. cond (is_eq o) (Some n) (map.get v r)) (tied_itself nat_cmp_total r)))
      (omega arith))
  | inr ge ↦ subst (λ (w : Vector). AtMost (Some n) (map.get w r)) (sym (raised_within v r n ge))
      (entry_high (map.get v r) n some ge)
]

-- a raised vector is below those that are above it and have the number
pub raised_below : (v w : Vector) (r n : ℕ) → Below v w → AtMost (Some n) (map.get w r)
    → Below (raised v r n) w
raised_below v w r n low high q = elim (cases_lt (entry v r) n) [
  | inl lt ↦
      subst (λ (u : Vector). AtMost (map.get u q) (map.get w q)) (sym (raised_above v r n lt))
      (by_region (λ o. AtMost o (map.get w q)) v r n q
      (λ same. subst (λ (k : ℕ). AtMost (Some n) (map.get w k)) (sym same) high) (low q))
  | inr ge ↦ subst (λ (u : Vector). AtMost (map.get u q) (map.get w q))
      (sym (raised_within v r n ge)) (low q)
]

-- ---- raising each of some entries

-- one more entry has been raised
pub raised_more : (V : Vector) (es : List (ℕ × ℕ)) (N M : Vector) (i r n : ℕ) → RaisedBy V es N i
    → i < length es → ((d : ℕ × ℕ) → get_or es i d ≡ (r, n)) → 0 < n → M ≡ raised N r n
    → RaisedBy V es M (i + 1)
raised_more V es N M i r n so within here some is = record {
  above = subst (Below V) (sym is) (below_trans V N (raised N r n) so.above (raised_keeps N r n));
  least = λ c low all.
      subst (λ (u : Vector). Below u c) (sym is) (raised_below N c r n (so.least c low all)
      (subst (λ (e : ℕ × ℕ). AtMost (Some e.1) (map.get c e.0)) (here (r, n))
      (all i (r, n) within)));
  has = λ k d lt. subst (λ (u : Vector).
      AtMost (Some (get_or es k d).1) (map.get u (get_or es k d).0)) (sym is) (elim (cases_lt k i) [
        | inl before ↦ at_most_trans (Some (get_or es k d).1) (map.get N (get_or es k d).0)
            (map.get (raised N r n) (get_or es k d).0) (so.has k d before)
            (raised_keeps N r n (get_or es k d).0)
        | inr last ↦
            let at : get_or es k d ≡ (r, n) = ap (λ j. get_or es j d) (omega arith) ∙ here d in
            subst (λ (e : ℕ × ℕ). AtMost (Some e.1) (map.get (raised N r n) e.0)) (sym at)
            (raised_has N r n some)
      ]);
}

-- what is found in a list whose entries are each at most c's is at most c's entry
found_below : (es : List (ℕ × ℕ)) (c : Vector) (q : ℕ)
    → ((k : ℕ) (d : ℕ × ℕ) → k < length es
    → AtMost (Some (get_or es k d).1) (map.get c (get_or es k d).0))
    → AtMost (map.find nat_cmp q es) (map.get c q)
found_below [] c q all = tt
found_below (e ∷ es) c q all = elim (cases_Bool (eq_by_cmp nat_cmp q e.0)) [
  | inl here ↦ subst (λ o. AtMost o (map.get c q))
      (sym (cond-true (eq_by_cmp nat_cmp q e.0) (Some e.1) (map.find nat_cmp q es) here))
      (subst (λ (k : ℕ). AtMost (Some e.1) (map.get c k)) (sym (tied q e.0 here))
      (all 0 e (omega arith)))
  | inr more ↦ subst (λ o. AtMost o (map.get c q))
      (sym (cond-false (eq_by_cmp nat_cmp q e.0) (Some e.1) (map.find nat_cmp q es) more))
      (found_below es c q (λ k d lt. all (suc k) d (omega arith)))
]

module _ (es : List (ℕ × ℕ)) (W : Vector) (seen : (q : ℕ) → map.get W q ≡ map.find nat_cmp q es)
    (found : (k : ℕ) (d : ℕ × ℕ) → k < length es
    → map.get W (get_or es k d).0 ≡ Some (get_or es k d).1) where
  -- each entry of a vector that is below another is at most the other's
  pub each_below : (c : Vector) → Below W c → (k : ℕ) (d : ℕ × ℕ) → k < length es
      → AtMost (Some (get_or es k d).1) (map.get c (get_or es k d).0)
  each_below c low k d lt =
      subst (λ o. AtMost o (map.get c (get_or es k d).0)) (found k d lt) (low (get_or es k d).0)

  -- a vector each of whose entries is at most another's is below that one
  pub all_below : (c : Vector)
      → ((k : ℕ) (d : ℕ × ℕ) → k < length es
      → AtMost (Some (get_or es k d).1) (map.get c (get_or es k d).0))
      → Below W c
  all_below c all q = subst (λ o. AtMost o (map.get c q)) (sym (seen q)) (found_below es c q all)

  -- a vector raised by all entries of another is the join of both
  pub raised_all : (V N : Vector) → RaisedBy V es N (length es) → IsJoin Below V W N
  raised_all V N so = record {
    left = so.above;
    right = all_below N so.has;
    least = λ c low high. so.least c low (each_below c high);
  }

  -- a vector raised by some entries of another is below all that are above both
  pub raised_some : (V N : Vector) (i : ℕ) → RaisedBy V es N i → (c : Vector) → Below V c
      → Below W c → Below N c
  raised_some V N i so c low high = so.least c low (each_below c high)

  -- each entry of a vector is at most another's exactly if the vector is below that one
  pub is_below : (V : Vector)
      → (AllAtMost es (length es) V → Below W V) × (Below W V → AllAtMost es (length es) V)
  is_below V = (all_below V, each_below V)

-- ---- the least vector above two

-- a vector with one entry raised to a serial
abbrev topped : Vector → ℕ → ℕ → Vector
topped v r n = map.insert v r (max n (entry v r))

-- a vector with each entry of a list raised
abbrev pub with_entries : Vector → List (ℕ × ℕ) → Vector
with_entries v [] = v
with_entries v (e ∷ es) = topped (with_entries v es) e.0 e.1

-- a vector is below itself with one entry topped up
topped_keeps : (v : Vector) (r n : ℕ) → Below v (topped v r n)
topped_keeps v r n q = by_region (AtMost (map.get v q)) v r (max n (entry v r)) q
    (λ same. subst (λ (k : ℕ). AtMost (map.get v q) (Some (max n (entry v k)))) same
    (own (map.get v q))) (at_most_itself (map.get v q))
  where
    own : (o : Option ℕ) → AtMost o (Some (max n (unwrap_or o 0)))
    own None = tt
    own (Some m) = omega arith

-- a vector with one entry topped up has at least the number there
topped_has : (v : Vector) (r n : ℕ) → AtMost (Some n) (map.get (topped v r n) r)
topped_has v r n = subst (AtMost (Some n))
    (sym (map.get-insert nat_cmp_total v r (max n (entry v r)) r
    ∙ ap (λ o. cond (is_eq o) (Some (max n (entry v r))) (map.get v r))
    (tied_itself nat_cmp_total r))) (omega arith)

-- a vector with one entry topped up is below each one above it that has the number
topped_below : (v w : Vector) (r n : ℕ) → Below v w → AtMost (Some n) (map.get w r)
    → Below (topped v r n) w
topped_below v w r n low high q = by_region (λ o. AtMost o (map.get w q)) v r (max n (entry v r)) q
    (λ same. subst (λ (k : ℕ). AtMost (Some (max n (entry v r))) (map.get w k)) (sym same)
    (two (map.get v r) (map.get w r) (low r) high)) (low q)
  where
    two : (o p : Option ℕ) → AtMost o p → AtMost (Some n) p
        → AtMost (Some (max n (unwrap_or o 0))) p
    two o None h k = absurd k
    two None (Some m) h k = omega arith
    two (Some l) (Some m) h k = omega arith

-- a vector is below itself with some more entries
with_keeps : (v : Vector) (es : List (ℕ × ℕ)) → Below v (with_entries v es)
with_keeps v [] = below_itself v
with_keeps v (e ∷ es) = below_trans v (with_entries v es) (topped (with_entries v es) e.0 e.1)
    (with_keeps v es) (topped_keeps (with_entries v es) e.0 e.1)

-- a vector with some more entries has at least each of them
with_has : (v : Vector) (es : List (ℕ × ℕ)) (q : ℕ)
    → AtMost (map.find nat_cmp q es) (map.get (with_entries v es) q)
with_has v [] q = tt
with_has v (e ∷ es) q = elim (cases_Bool (eq_by_cmp nat_cmp q e.0)) [
  | inl here ↦ subst (λ o. AtMost o (map.get (with_entries v (e ∷ es)) q))
      (sym (cond-true (eq_by_cmp nat_cmp q e.0) (Some e.1) (map.find nat_cmp q es) here))
      (subst (λ (k : ℕ). AtMost (Some e.1) (map.get (with_entries v (e ∷ es)) k))
      (sym (tied q e.0 here)) (topped_has (with_entries v es) e.0 e.1))
  | inr more ↦ subst (λ o. AtMost o (map.get (with_entries v (e ∷ es)) q))
      (sym (cond-false (eq_by_cmp nat_cmp q e.0) (Some e.1) (map.find nat_cmp q es) more))
      (at_most_trans (map.find nat_cmp q es) (map.get (with_entries v es) q) _ (with_has v es q)
      (topped_keeps (with_entries v es) e.0 e.1 q))
]

-- a vector with some more entries is below each one above it that has the entries
with_below : (v w : Vector) (es : List (ℕ × ℕ)) → Below v w → AllAtMost es (length es) w
    → Below (with_entries v es) w
with_below v w [] low all = low
with_below v w (e ∷ es) low all = topped_below (with_entries v es) w e.0 e.1
    (with_below v w es low (λ k d lt. all (suc k) d (omega arith))) (all 0 e (omega arith))

-- the element at a place in range does not depend on the default
pub get_or-any : (es : List (ℕ × ℕ)) (k : ℕ) (x y : ℕ × ℕ) → k < length es
    → get_or es k x ≡ get_or es k y
get_or-any [] k x y h = absurd (omega arith)
get_or-any (e ∷ es) zero x y h = refl
get_or-any (e ∷ es) (suc k) x y h = get_or-any es k x y (omega arith)

-- each entry of a list that rises is found by its key
found_there : (es : List (ℕ × ℕ)) → T (map.is_sorted nat_cmp es) → (k : ℕ) (d : ℕ × ℕ)
    → k < length es → map.find nat_cmp (get_or es k d).0 es ≡ Some (get_or es k d).1
found_there es sorted k d lt = find_at_place nat_cmp (get_or es k d).0 es k lt
    (λ j x less.
    nat_cmp_total.antisymm (get_or es k d).0 (get_or es j x).0
    ∙ ap ordering_reverse
    (ap (nat_cmp (get_or es j x).0) (ap (λ (e : ℕ × ℕ). e.0) (get_or-any es k d x lt))
    ∙ rises nat_cmp es sorted j k x less lt))
    (λ x. ap (nat_cmp (get_or es k d).0) (ap (λ (e : ℕ × ℕ). e.0) (get_or-any es k x d lt))
    ∙ tied_itself nat_cmp_total (get_or es k d).0) d

-- the entry at a place is what the vector has of its region
pub found_entries : (W : Vector) (k : ℕ) (d : ℕ × ℕ) → k < length (map.entries W)
    → map.get W (get_or (map.entries W) k d).0 ≡ Some (get_or (map.entries W) k d).1
found_entries W k d lt = map.get-entries W (get_or (map.entries W) k d).0
    ∙ found_there (map.entries W) (map.entries_sorted W) k d lt

-- each two vectors have a join
pub join_of : (v w : Vector) → (c : Vector) × IsJoin Below v w c
join_of v w =
    let es = map.entries w in (
      with_entries v es,
      record {
        left = with_keeps v es;
        right = λ q. subst (λ o. AtMost o (map.get (with_entries v es) q))
            (sym (map.get-entries w q)) (with_has v es q);
        least = λ d low high.
            with_below v d es low (each_below es w (map.get-entries w) (found_entries w) d high);
      },
    )

module _ (es : List (ℕ × ℕ)) (W : Vector) (sorted : T (map.is_sorted nat_cmp es))
    (seen : map.from_sorted es ≡ W) where
  -- the entries of the vector are the sorted list
  kept_entries : map.entries W ≡ es
  kept_entries = ap map.entries (sym seen) ∙ map.entries-from_sorted nat_cmp es sorted

  -- the vector has at a region what is found in the list
  seen_at : (q : ℕ) → map.get W q ≡ map.find nat_cmp q es
  seen_at q = map.get-entries W q ∙ ap (map.find nat_cmp q) kept_entries

  -- the vector has each entry of the list
  found_at : (k : ℕ) (d : ℕ × ℕ) → k < length es
      → map.get W (get_or es k d).0 ≡ Some (get_or es k d).1
  found_at k d lt = seen_at (get_or es k d).0 ∙ found_there es sorted k d lt

  -- for entries that were read: each is at most another's exactly if the vector is below
  pub kept_below : (V : Vector)
      → (AllAtMost es (length es) V → Below W V) × (Below W V → AllAtMost es (length es) V)
  kept_below = is_below es W seen_at found_at

  -- for entries that were read: raised by all of them is the join
  pub kept_join : (V N : Vector) → RaisedBy V es N (length es) → IsJoin Below V W N
  kept_join = raised_all es W seen_at found_at

  -- for entries that were read: raised by some of them is below the join
  pub kept_some : (V N : Vector) (i : ℕ) → RaisedBy V es N i → (c : Vector) → Below V c → Below W c
      → Below N c
  kept_some = raised_some es W seen_at found_at

-- vectors and their join obey the laws of joins
pub vector_laws : JoinLaws Below (λ a b. ⊤)
vector_laws = record {
  reflexive = below_itself;
  transitive = below_trans;
  antisymmetric = below_antisymmetric;
  joined = λ a b h. join_of a b;
}
