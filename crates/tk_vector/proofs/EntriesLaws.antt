-- The entries of a vector as a list. Key results:
--   few            there are no more entries than regions
--   is_rising      a test of neighbours finds out whether the regions rise
--   rising_entries a vector is the vector of its entries
--   more_written   writing one entry more
--   more_fits      the entries written so far, and one more, have a spelling
use Rattle.std.proofs.Common.{◌≡◌, ℕ, suc, ◌+◌, ◌-◌, ◌<◌, ◌≤◌, Bool, true, false, ◌&&◌, T, nat_lt}
use Rattle.std.proofs.Common.{List, [], ◌∷◌, ◌++◌, get_or, slice_get, length, take, Some, refl, sym}
use Rattle.std.proofs.Common.{ap, subst, ◌∙◌, add-one, append_assoc, arith}
use Rattle.std.specs.List.{AllByRecursion, IsAllAdjacentAnswer, flat_map}
use Rattle.std.specs.Ordering.{nat_cmp, is_lt}
use Rattle.std.specs.declared.cmp.Ordering.TheVariants.{Less}
use Rattle.std.specs.FinMap as map
use Rattle.std.specs.FinMap.{is_sorted}
use Rattle.std.specs.FinMap.Entries.{below_all}
use Rattle.std.proofs.lemmas.List.{append-nil}
use Rattle.std.proofs.lemmas.Bool.Decides.{nat_tests}
use Rattle.std.proofs.lemmas.Grind.{take_at_read}
use Rattle.std.proofs.lemmas.List.Concat.{flat_map-append}
use Rattle.tk_format.specs.Exact.{some_is}
use Rattle.tk_handle.specs.Ranges.{IsRegion, max_region}
use Rattle.tk_handle.proofs.SortedEntriesLaws.{rises}
use Rattle.tk_vector.specs.VectorBytes.{entry_field, rising}
use Rattle.tk_vector.specs.VersionVector.{Vector}
use Rattle.tk_handle.proofs.TestLaws.{and as both, is_true as true_of}

-- regions with their serials
abbrev Entries : Type 0
Entries = List (ℕ × ℕ)

-- the first of two tests that both hold holds
left : (a b : Bool) → T (a && b) → T a
left true b p = tt
left false b p = p

-- the second of two tests that both hold holds
right : (a b : Bool) → T (a && b) → T b
right true b p = p
right false b p = absurd p

-- a number that compares as less is less
below : (a b : ℕ) → T (is_lt (nat_cmp a b)) → a < b
below a b h = grind (arith, nat_tests)

-- a number that is less compares as less
is_below : (a b : ℕ) → a < b → T (is_lt (nat_cmp a b))
is_below a b h = grind (arith, nat_tests)

-- a number that is less by the test is less
lt_from_test : (a b : ℕ) → true ≡ nat_lt a b → a < b
lt_from_test a b h = grind (arith, nat_tests)

-- a number that compares as less is not found to be no less
not_less : (a b : ℕ) → nat_cmp a b ≡ Less → ¬ (false ≡ nat_lt a b)
not_less a b h e = grind (arith, nat_tests)

-- the first i + 1 entries are the first i, and the next
one_more : (es : Entries) (i : ℕ) (e : ℕ × ℕ) → i < length es → e ≡ get_or es i e
    → take (i + 1) es ≡ take i es ++ (e ∷ [])
one_more es i e within is =
    (take_at_read es i e within).1 ∙ ap (λ x. take i es ++ (x ∷ [])) (sym is)

-- entries that fit, and more entries that fit, all fit
all_append : (es fs : Entries) → AllByRecursion entry_field.Fits es
    → AllByRecursion entry_field.Fits fs → AllByRecursion entry_field.Fits (es ++ fs)
all_append [] fs a b = b
all_append (e ∷ es) fs a b = (a.0, all_append es fs a.1 b)

-- ---- how many entries there are

-- regions that rise differ at least as much as their places
spread : (e : ℕ × ℕ) (es : Entries) (last : ℕ × ℕ) → T (is_sorted nat_cmp (e ∷ es))
    → slice_get (e ∷ es) (length es) ≡ Some last → e.0 + length es ≤ last.0
spread e [] last h at = let same : e ≡ last = some_is e last at in
    subst (λ (x : ℕ × ℕ). e.0 + 0 ≤ x.0) same (omega arith)
spread e (f ∷ es) last h at =
    let above = left (below_all nat_cmp e.0 (f ∷ es)) (is_sorted nat_cmp (f ∷ es)) h in
    let lt = below e.0 f.0 (left (is_lt (nat_cmp e.0 f.0)) (below_all nat_cmp e.0 es) above) in
    let rest =
    spread f es last (right (below_all nat_cmp e.0 (f ∷ es)) (is_sorted nat_cmp (f ∷ es)) h) at in
    omega arith

-- there are no more entries than regions
pub few : (es : Entries) (first last : ℕ × ℕ) → T (is_sorted nat_cmp es)
    → slice_get es 0 ≡ Some first → slice_get es (length es - 1) ≡ Some last → IsRegion first.0
    → last.0 ≤ max_region → length es < 65536
few [] first last h one other low high = omega arith
few (e ∷ es) first last h one other low high =
    let at : length (e ∷ es) - 1 ≡ length es = omega arith in
    let first_is : e ≡ first = some_is e first one in
    let apart = spread e es last h (subst (λ n. slice_get (e ∷ es) n ≡ Some last) at other) in
    let lowest : 0 < e.0 = subst (λ (x : ℕ × ℕ). 0 < x.0) (sym first_is) low.0 in
    omega (arith, apart, lowest, high)

-- ---- whether the regions rise

-- a number below b is below each element that b is below
below_all_from : (a b : ℕ) (es : Entries) → a < b → T (below_all nat_cmp b es)
    → T (below_all nat_cmp a es)
below_all_from a b [] lt h = tt
below_all_from a b (e ∷ es) lt h =
    let next = below b e.0 (left _ _ h) in
    both _ _ (is_below a e.0 (omega arith)) (below_all_from a b es lt (right _ _ h))

-- entries of which each is below the next, by region, are sorted
neighbours : (es : Entries)
    → ((k : ℕ) (d : ℕ × ℕ) → suc k < length es → (get_or es k d).0 < (get_or es (suc k) d).0)
    → T (is_sorted nat_cmp es)
neighbours [] h = tt
neighbours (e ∷ []) h = tt
neighbours (e ∷ f ∷ es) h =
    let rest = neighbours (f ∷ es) (λ k d lt. h (suc k) d (omega arith)) in
    let lt : e.0 < f.0 = h 0 e (omega arith) in
    both _ _ (both _ _ (is_below e.0 f.0 lt) (below_all_from e.0 f.0 es lt (left _ _ rest))) rest

-- what a test of neighbours returns: whether the regions rise
abbrev pub Answers : Entries → Bool → Type 0
Answers es answer = IsAllAdjacentAnswer (λ one next b. b ≡ nat_lt one.0 next.0) es answer

-- the answer is whether the entries rise by region
pub is_rising : (es : Entries) (answer : Bool) → Answers es answer → answer ≡ is_sorted nat_cmp es
is_rising es true h = sym (true_of _
    (neighbours es
    (λ k d lt. lt_from_test _ _
    (subst (λ n. true ≡ nat_lt (get_or es k d).0 (get_or es n d).0) (add-one k)
    (h k d (omega arith))))))
is_rising es false (k, lt, h) = by_test (is_sorted nat_cmp es) refl
  where
    by_test : (b : Bool) → is_sorted nat_cmp es ≡ b → false ≡ b
    by_test true e =
        let d : ℕ × ℕ = (0, 0) in
        absurd (not_less _ _ (rises nat_cmp es (subst T (sym e) tt) k (k + 1) d (omega arith) lt)
        (h d))
    by_test false e = refl

-- the vector of a vector's entries is that vector
pub rising_entries : (v : Vector) → rising (map.entries v) ≡ Some v
rising_entries v =
    rw (true_of _ (map.entries_sorted v))
    (ap (λ w. Some w)
    (map.same_entries_map _ v
    (map.entries-from_sorted nat_cmp (map.entries v) (map.entries_sorted v))))

-- ---- the entries in bytes

-- the bytes written after one more entry
pub more_written : (es : Entries) (i : ℕ) (e : ℕ × ℕ) (old before after : List ℕ) → i < length es
    → e ≡ get_or es i e
    → before ≡ old ++ flat_map entry_field.spell (take i es) → after ≡ before ++ entry_field.spell e
    → after ≡ old ++ flat_map entry_field.spell (take (i + 1) es)
more_written es i e old before after within is so_far one =
    one ∙ ap (λ bytes. bytes ++ entry_field.spell e) so_far
    ∙ append_assoc old (flat_map entry_field.spell (take i es)) (entry_field.spell e)
    ∙ ap (λ bytes. old ++ bytes)
    (ap (λ bytes. flat_map entry_field.spell (take i es) ++ bytes)
    (sym (append-nil (entry_field.spell e)))
    ∙ sym (flat_map-append entry_field.spell (take i es) (e ∷ []))
    ∙ ap (flat_map entry_field.spell) (sym (one_more es i e within is)))

-- the entries written so far, and one more, have a spelling
pub more_fits : (es : Entries) (i : ℕ) (e : ℕ × ℕ) → i < length es → e ≡ get_or es i e
    → AllByRecursion entry_field.Fits (take i es) → entry_field.Fits e
    → AllByRecursion entry_field.Fits (take (i + 1) es)
more_fits es i e within is so_far fits = subst (AllByRecursion entry_field.Fits)
    (sym (one_more es i e within is)) (all_append (take i es) (e ∷ []) so_far (fits, tt))
