-- The set of the dots of runs. Key results:
--   covers, has_dot         a dot is in the set exactly if a run has it
--   below_free, below_has   what the run below a dot says of it
use Rattle.std.proofs.Common.{◌≡◌, ◌≢◌, ℕ, zero, suc, ◌+◌, ◌-◌, ◌<◌, ◌≤◌, ◌==◌, ◌||◌, Bool, true}
use Rattle.std.proofs.Common.{false, nat_le, List, [], ◌∷◌, Some, None, IsSome, is_some, refl, sym}
use Rattle.std.proofs.Common.{ap, subst, ◌∙◌, inl, inr, ◌⊎◌, arith}
use Rattle.std.proofs.lemmas.Bool.{cases_Bool, cases_lt, cond-true, cond-false, or_cases, or_left}
use Rattle.std.proofs.lemmas.Bool.{or_right, false_from_ne_true}
use Rattle.std.proofs.lemmas.Bool.Decides.{nat_tests}
use Rattle.std.proofs.lemmas.List.Elements.{All-head, All-tail}
use Rattle.std.proofs.lemmas.Map.Views.{All-found}
use Rattle.std.specs.List.{All}
use Rattle.std.specs.Ordering.{eq_by_cmp, is_lt}
use Rattle.std.specs.BTreeMap.{get, is_at, IsOrdered}
use Rattle.std.specs.BTreeMap.Range.{IsLeBy, IsInRange}
use Rattle.std.specs.declared.ops.Bound.TheVariants.{Included, Unbounded}
use Rattle.std.specs.List.Sorted.{IsStrictlySortedBy}
use Rattle.std.specs.Map.{lookup, keys_of}
use Rattle.std.specs.FinSet as set
use Rattle.tk_handle.specs.declared.dot.Dot.{Dot}
use Rattle.tk_handle.specs.Dot.{dot_cmp, dot_cmp_total, dot_cmp-IsAntisymmetric}
use Rattle.tk_handle.specs.Ranges.{max_serial}
use mathlib.Core.Bool.{false≢true}
use Rattle.tk_dots.specs.Runs.{Runs, DotSet, dot_of, with_run, run_set, IsCovered, IsRuns}
use Rattle.tk_dots.specs.Runs.{IsRunBelow, IsEndAbove}
use Rattle.tk_dots.proofs.PlaceLaws.{tied_same, dot_is}
use Rattle.tk_handle.proofs.TestLaws.{tied}
use Rattle.std.proofs.lemmas.Option.{none-some as none_is, same_Some as some_same}

-- numbers that the test finds equal are equal
pub nat_test : (x y a b : ℕ) → x ≡ a → y ≡ b → (x == y) ≡ true → a ≡ b
nat_test x y a b e f h = grind (arith, nat_tests)

-- numbers that the test finds different are different
pub nat_apart : (x y a b : ℕ) → x ≡ a → y ≡ b → (x == y) ≡ false → a ≢ b
nat_apart x y a b e f h = grind (arith, nat_tests)

-- ---- the dots of one run

-- a dot in a set with a run added is in the run, or was in the set
within_run : (r first n : ℕ) (s : DotSet) (q : Dot) → set.contains (with_run r first n s) q ≡ true
    → ((q.region ≡ r) × (first ≤ q.serial) × (q.serial < first + n)) ⊎ (set.contains s q ≡ true)
unfolding with_run
within_run r first zero s q h = inr h
within_run r first (suc n) s q h = elim (or_cases (eq_by_cmp dot_cmp q (dot_of r (first + n)))
    (set.contains (with_run r first n s) q)
    (sym (set.contains-insert dot_cmp_total (with_run r first n s) (dot_of r (first + n)) q) ∙ h)) [
      | inl same ↦
          let is : q.serial ≡ first + n =
          ap (λ (x : Dot). x.serial) (tied q (dot_of r (first + n)) same) in
          inl (
            ap (λ (x : Dot). x.region) (tied q (dot_of r (first + n)) same),
            omega (arith, is),
            omega (arith, is),
          )
      | inr more ↦ elim (within_run r first n s q more) [
        | inl here ↦ inl (here.0, here.1, (let lt = here.2 in omega (arith, lt)))
        | inr old ↦ inr old
      ]
    ]

-- a set with a run added has the dots that it had
run_keeps : (r first n : ℕ) (s : DotSet) (q : Dot) → set.contains s q ≡ true
    → set.contains (with_run r first n s) q ≡ true
unfolding with_run
run_keeps r first zero s q h = h
run_keeps r first (suc n) s q h = set.contains-insert dot_cmp_total (with_run r first n s)
    (dot_of r (first + n)) q
    ∙ or_right _ _ (run_keeps r first n s q h)

-- a set with a run added has the dots of the run
run_has : (r first n : ℕ) (s : DotSet) (q : Dot) → q.region ≡ r → first ≤ q.serial
    → q.serial < first + n → set.contains (with_run r first n s) q ≡ true
unfolding with_run
run_has r first zero s q region low high = absurd (omega (arith, low, high))
run_has r first (suc n) s q region low high =
    set.contains-insert dot_cmp_total (with_run r first n s) (dot_of r (first + n)) q
    ∙ elim (cases_lt q.serial (first + n)) [
      | inl lt ↦ or_right _ _ (run_has r first n s q region low lt)
      | inr ge ↦ or_left _ _
          (tied_same q (dot_of r (first + n))
          (dot_is q (dot_of r (first + n)) region (omega (arith, ge, high))))
    ]

-- ---- the dots of all runs

-- a dot in the set of some of a map's runs is covered by the map
covered_in : (m : Runs) (es : List (Dot × ℕ)) → All (λ e. get dot_cmp m e.0 ≡ Some e.1) es
    → (q : Dot) → set.contains (run_set es) q ≡ true → IsCovered m q
covered_in m [] all q h = absurd (false≢true (sym (set.contains-empty dot_cmp q) ∙ h))
covered_in m (e ∷ es) all q h =
    elim (within_run e.0.region e.0.serial (e.1 + 1 - e.0.serial) (run_set es) q h) [
      | inl here ↦ record {
        first = e.0.serial;
        has = record {
          last = e.1;
          here = subst (λ (k : Dot). get dot_cmp m k ≡ Some e.1)
              (dot_is e.0 (dot_of q.region e.0.serial) (sym here.0) refl)
              (All-head (λ e. get dot_cmp m e.0 ≡ Some e.1) e es all);
          low = here.1;
          high = (let low = here.1 in let high = here.2 in omega (arith, low, high));
        };
      }
      | inr more ↦ covered_in m es (All-tail (λ e. get dot_cmp m e.0 ≡ Some e.1) e es all) q more
    ]

-- a set of the dots of runs has each dot of a run that is found among them
has_in : (es : List (Dot × ℕ)) (k : Dot) (last : ℕ) → lookup (is_at (dot_cmp k)) es ≡ Some last
    → (q : Dot) → q.region ≡ k.region → k.serial ≤ q.serial → q.serial ≤ last
    → set.contains (run_set es) q ≡ true
has_in [] k last at q region low high = absurd (none_is last at)
has_in (e ∷ es) k last at q region low high = elim (cases_Bool (is_at (dot_cmp k) e.0)) [
  | inl same ↦
      let is : k ≡ e.0 = tied k e.0 same in
      let end : e.1 ≡ last = some_same e.1 last (sym (cond-true _ _ _ same) ∙ at) in
      let from : k.serial ≡ e.0.serial = ap (λ (x : Dot). x.serial) is in
      run_has e.0.region e.0.serial (e.1 + 1 - e.0.serial) (run_set es) q
      (region ∙ ap (λ (x : Dot). x.region) is) (omega (arith, low, from))
      (omega (arith, low, high, from, end))
  | inr apart ↦ run_keeps e.0.region e.0.serial (e.1 + 1 - e.0.serial) (run_set es) q
      (has_in es k last (sym (cond-false _ _ _ apart) ∙ at) q region low high)
]

-- a dot of the set is one of a run
pub covers : (m : Runs) → IsOrdered dot_cmp m → (q : Dot)
    → set.contains (run_set m.entries) q ≡ true → IsCovered m q
covers m ordered q h = covered_in m m.entries (All-found dot_cmp_total m ordered) q h

-- a dot of a run is one of the set
pub has_dot : (m : Runs) (q : Dot) → IsCovered m q → set.contains (run_set m.entries) q ≡ true
has_dot m q x =
    has_in m.entries (dot_of q.region x.first) x.has.last x.has.here q refl x.has.low x.has.high

-- the test of a dot, from both ways
pub covered_is : (m : Runs) → IsOrdered dot_cmp m → (q : Dot) (t : Bool)
    → (t ≡ true → IsCovered m q) → (t ≡ false → IsCovered m q → ⊥)
    → t ≡ set.contains (run_set m.entries) q
covered_is m ordered q t some none = elim (cases_Bool t) [
  | inl is ↦ is ∙ sym (has_dot m q (some is))
  | inr is ↦ is ∙ sym (false_from_ne_true _ (λ h. none is (covers m ordered q h)))
]

-- each dot of the set has a serial in range
pub dots_high : (m : Runs) → IsRuns m → (q : Dot) → set.contains (run_set m.entries) q ≡ true
    → q.serial ≤ max_serial
dots_high m runs q h =
    let x = covers m runs.ordered q h in
    let high = x.has.high in
    let ranged = runs.ranged (dot_of q.region x.first) x.has.last x.has.here in
    omega (arith, high, ranged)

-- the same runs in another map
pub same_runs : (m n : Runs) → IsRuns m → n.entries ≡ m.entries → IsRuns n
same_runs m n runs same = record {
  ordered = subst (λ (es : List (Dot × ℕ)). IsStrictlySortedBy dot_cmp (keys_of es))
      (sym same) runs.ordered;
  rises = λ k last at. runs.rises k last (here k ∙ at);
  ranged = λ k last at. runs.ranged k last (here k ∙ at);
  some = λ k last at. runs.some k last (here k ∙ at);
  apart = λ r k q last other one two less.
      runs.apart r k q last other (here (dot_of r k) ∙ one) (here (dot_of r q) ∙ two) less;
}
  where
    here : (k : Dot) → get dot_cmp m k ≡ get dot_cmp n k
    here k = ap (λ (es : List (Dot × ℕ)). lookup (is_at (dot_cmp k)) es) (sym same)

-- a dot that is in the set already adds nothing
pub insert_held : (s : DotSet) (d : Dot) → set.contains s d ≡ true → s ≡ set.insert s d
insert_held s d h = set.same_set dot_cmp_total dot_cmp-IsAntisymmetric s (set.insert s d)
    (λ q. same q ∙ sym (set.contains-insert dot_cmp_total s d q))
  where
    same : (q : Dot) → set.contains s q ≡ (eq_by_cmp dot_cmp q d || set.contains s q)
    same q = elim (cases_Bool (eq_by_cmp dot_cmp q d)) [
      | inl here ↦ (ap (set.contains s) (tied q d here) ∙ h) ∙ sym (or_left _ _ here)
      | inr apart ↦ sym (ap (λ (t : Bool). t || set.contains s q) apart)
    ]

-- the end of the run right above a dot
pub end_some : (m : Runs) → IsRuns m → (d next : Dot) (last : ℕ)
    → next ≡ dot_of d.region (d.serial + 1) → get dot_cmp m next ≡ Some last → IsEndAbove m d last
end_some m runs d next last is at =
    let rises : d.serial + 1 ≤ last =
    subst (λ (k : Dot). k.serial ≤ last) is (runs.rises next last at) in
    inr (omega (arith, rises), ap (get dot_cmp m) (sym is) ∙ at)

-- no run begins above a dot whose next begins none
pub end_none : (m : Runs) (d next : Dot) (n : ℕ) → n ≡ d.serial
    → next ≡ dot_of d.region (d.serial + 1) → get dot_cmp m next ≡ None → IsEndAbove m d n
end_none m d next n e is none = inl (e, ap (get dot_cmp m) (sym is) ∙ none)

-- ---- the run below a dot

-- the last key up to a dot, if it is of the dot's region, is the run below
pub below_is : (m : Runs) (d k : Dot) (last : ℕ) → IsInRange dot_cmp Unbounded (Included d) k
    → get dot_cmp m k ≡ Some last
    → ((q : Dot) → IsInRange dot_cmp Unbounded (Included d) q → IsSome (get dot_cmp m q)
    → is_lt (dot_cmp k q) ≡ false)
    → k.region ≡ d.region → IsRunBelow m d (Some (k, last))
below_is m d k last within here top region = (
  region,
  serials k d within.1 region,
  ap (get dot_cmp m) (dot_is (dot_of d.region k.serial) k (sym region) refl) ∙ here,
  λ n other le at.
      not_above k (dot_of d.region n) region
      (top (dot_of d.region n) (tt, up_to d n le) (ap is_some at)),
)
  where
    serials : (k d : Dot) → IsLeBy dot_cmp k d → k.region ≡ d.region → k.serial ≤ d.serial
    serials k d le region = grind (arith, nat_tests)

    up_to : (d : Dot) (n : ℕ) → n ≤ d.serial → IsLeBy dot_cmp (dot_of d.region n) d
    up_to d n le = grind (arith, nat_tests)

    not_above : (k q : Dot) → k.region ≡ q.region → is_lt (dot_cmp k q) ≡ false
        → q.serial ≤ k.serial
    not_above k q region h = grind (arith, nat_tests)

-- the last key up to a dot, if it is of another region, shows that there is no run below
pub below_other : (m : Runs) (d k : Dot) → IsInRange dot_cmp Unbounded (Included d) k
    → ((q : Dot) → IsInRange dot_cmp Unbounded (Included d) q → IsSome (get dot_cmp m q)
    → is_lt (dot_cmp k q) ≡ false)
    → k.region ≢ d.region → IsRunBelow m d None
below_other m d k within top other n last le at =
    other (same_region k (dot_of d.region n) d refl within.1
    (top (dot_of d.region n) (tt, up_to d n le) (ap is_some at)))
  where
    up_to : (d : Dot) (n : ℕ) → n ≤ d.serial → IsLeBy dot_cmp (dot_of d.region n) d
    up_to d n le = grind (arith, nat_tests)

    same_region : (k q d : Dot) → q.region ≡ d.region → IsLeBy dot_cmp k d
        → is_lt (dot_cmp k q) ≡ false → k.region ≡ d.region
    same_region k q d region le h = grind (arith, nat_tests)

-- no run is below a dot if none begins up to it
pub below_none : (m : Runs) (d : Dot)
    → ((q : Dot) → IsInRange dot_cmp Unbounded (Included d) q → get dot_cmp m q ≡ None)
    → IsRunBelow m d None
below_none m d none n last le at =
    none_is last (sym (none (dot_of d.region n) (tt, up_to d n le)) ∙ at)
  where
    up_to : (d : Dot) (n : ℕ) → n ≤ d.serial → IsLeBy dot_cmp (dot_of d.region n) d
    up_to d n le = grind (arith, nat_tests)

module _ (m : Runs) (runs : IsRuns m) (d : Dot) where
  -- without a run below it, a dot is in no run
  pub none_below : IsRunBelow m d None → IsCovered m d → ⊥
  none_below none x = none x.first x.has.last x.has.low x.has.here

  -- the run below a dot has it, if it ends late enough
  pub below_has : (p : Dot × ℕ) → IsRunBelow m d (Some p) → d.serial ≤ p.1 → IsCovered m d
  below_has p below late = record {
    first = p.0.serial;
    has = record { last = p.1; here = below.2; low = below.1; high = late };
  }

  -- otherwise no run has it
  pub below_free : (p : Dot × ℕ) → IsRunBelow m d (Some p) → p.1 < d.serial → IsCovered m d → ⊥
  below_free p below early x = elim (cases_lt x.first p.0.serial) [
    | inl lt ↦
        let gap : x.has.last + 1 < p.0.serial =
        runs.apart d.region x.first p.0.serial x.has.last p.1 x.has.here below.2 lt in
        let low = below.1 in
        let high = x.has.high in
        absurd (omega (arith, gap, low, high))
    | inr ge ↦
        let most : x.first ≤ p.0.serial = below.3 x.first x.has.last x.has.low x.has.here in
        let at : p.0.serial ≡ x.first = omega (arith, ge, most) in
        let end : p.1 ≡ x.has.last = some_same p.1 x.has.last
        (sym below.2 ∙ ap (λ n. get dot_cmp m (dot_of d.region n)) at ∙ x.has.here) in
        let high = x.has.high in
        absurd (omega (arith, end, high, early))
  ]

  -- the test of the dot by the run below
  pub below_test : (p : Dot × ℕ) → IsRunBelow m d (Some p) → (n : ℕ) → n ≡ d.serial
      → nat_le n p.1 ≡ set.contains (run_set m.entries) d
  below_test p below n is = covered_is m runs.ordered d (nat_le n p.1)
      (λ h. below_has p below (late n p.1 is h))
      (λ h. below_free p below (early n p.1 is h))
    where
      late : (n end : ℕ) → n ≡ d.serial → nat_le n end ≡ true → d.serial ≤ end
      late n end e h = grind (arith, nat_tests)

      early : (n end : ℕ) → n ≡ d.serial → nat_le n end ≡ false → end < d.serial
      early n end e h = grind (arith, nat_tests)

  -- a dot with no run below it is in none
  pub none_test : IsRunBelow m d None → false ≡ set.contains (run_set m.entries) d
  none_test none =
      covered_is m runs.ordered d false (λ h. absurd (false≢true h)) (λ _. none_below none)
