-- One dot more in the runs. Key results:
--   added        the set has that dot too
--   added_runs   no two runs touch
use Rattle.std.proofs.Common.{◌≡◌, ◌≢◌, ℕ, ◌+◌, ◌<◌, ◌≤◌, Some, refl, sym, ap}
use Rattle.std.proofs.Common.{subst, ◌∙◌, inl, inr, ◌⊎◌, arith}
use Rattle.std.proofs.lemmas.Bool.{cases_Bool, cases_lt, cases_eq, cond-true, cond-false, or_cases}
use Rattle.std.proofs.lemmas.Bool.{or_left, or_right, false_from_ne_true}
use Rattle.std.specs.Ordering.{eq_by_cmp}
use Rattle.std.specs.BTreeMap.{get, is_at, IsOrdered}
use Rattle.std.specs.FinSet as set
use Rattle.tk_handle.specs.declared.dot.Dot.{Dot}
use Rattle.tk_handle.specs.Dot.{dot_cmp, dot_cmp_total, dot_cmp-IsAntisymmetric}
use Rattle.tk_handle.specs.Ranges.{max_serial}
use mathlib.Core.Bool.{false≢true}
use Rattle.tk_dots.specs.Runs.{Runs, dot_of, run_set, IsCovered, IsRuns, IsEndAbove, IsStart}
use Rattle.tk_dots.specs.Runs.{Joined}
use Rattle.tk_dots.proofs.PlaceLaws.{tied_same, dot_is}
use Rattle.tk_handle.proofs.TestLaws.{tied}
use Rattle.tk_dots.proofs.RunLaws.{covers, has_dot, covered_is}
use Rattle.std.proofs.lemmas.Option.{same_Some as some_same, none-some as none_is}

module _ (m n : Runs) (runs : IsRuns m) (d : Dot) (s end : ℕ) (free : IsCovered m d → ⊥)
    (low : IsStart m d s) (high : IsEndAbove m d end)
    (updates : Joined m d s end n) where
  -- the joined run starts at the dot or below
  start_low : s ≤ d.serial
  start_low = elim low [ inl x ↦ (let e = x.0 in omega (arith, e)) | inr x ↦ x.3 ]

  -- the joined run ends at the dot or above
  end_high : d.serial ≤ end
  end_high = elim high [
    | inl x ↦ (let e = x.0 in omega (arith, e))
    | inr x ↦ (let e = x.0 in omega (arith, e))
  ]

  -- the runs have the joined run at its start
  at_start : get dot_cmp n (dot_of d.region s) ≡ Some end
  at_start =
      updates (dot_of d.region s)
      ∙ cond-false _ _ _ (false_from_ne_true _ (λ h.
      let e : d.serial + 1 ≡ s =
      ap (λ (x : Dot). x.serial) (tied (dot_of d.region (d.serial + 1)) (dot_of d.region s) h) in
      let le = start_low in
      absurd (omega (arith, e, le))))
      ∙ cond-true _ _ _ (tied_same (dot_of d.region s) (dot_of d.region s) refl)

  -- the run at a serial of a region: the new one, or one that was there
  at_any : (r k last : ℕ) → get dot_cmp n (dot_of r k) ≡ Some last
      → ((r ≡ d.region) × (k ≡ s) × (last ≡ end))
      ⊎ ((get dot_cmp m (dot_of r k) ≡ Some last) × (r ≡ d.region → (k ≢ s) × (k ≢ d.serial + 1)))
  at_any r k last at =
      elim (cases_Bool (is_at (dot_cmp (dot_of d.region (d.serial + 1))) (dot_of r k))) [
        | inl next ↦ absurd (none_is last (sym (updates (dot_of r k) ∙ cond-true _ _ _ next) ∙ at))
        | inr other ↦ elim (cases_Bool (is_at (dot_cmp (dot_of d.region s)) (dot_of r k))) [
          | inl same ↦
              let is : dot_of d.region s ≡ dot_of r k =
              tied (dot_of d.region s) (dot_of r k) same in
              inl (
                sym (ap (λ (x : Dot). x.region) is),
                sym (ap (λ (x : Dot). x.serial) is),
                some_same last end
                    (sym at ∙ updates (dot_of r k) ∙ cond-false _ _ _ other ∙ cond-true _ _ _ same),
              )
          | inr apart ↦ inr (
            sym (updates (dot_of r k) ∙ cond-false _ _ _ other ∙ cond-false _ _ _ apart) ∙ at,
            λ region. (
              λ e. absurd
                  (false≢true
                  (sym apart ∙ tied_same (dot_of d.region s) (dot_of r k)
                  (dot_is (dot_of d.region s) (dot_of r k) (sym region) (sym e)))),
              λ e. absurd
                  (false≢true
                  (sym other ∙ tied_same (dot_of d.region (d.serial + 1)) (dot_of r k)
                  (dot_is (dot_of d.region (d.serial + 1)) (dot_of r k) (sym region) (sym e)))),
            ),
          )
        ]
      ]

  -- a run that is there and begins elsewhere stays
  stays : (r k last : ℕ) → get dot_cmp m (dot_of r k) ≡ Some last
      → (r ≡ d.region → (k ≢ s) × (k ≢ d.serial + 1)) → get dot_cmp n (dot_of r k) ≡ Some last
  stays r k last at off =
      updates (dot_of r k)
      ∙ cond-false _ _ _ (false_from_ne_true _ (λ h.
      let is : dot_of d.region (d.serial + 1) ≡ dot_of r k =
      tied (dot_of d.region (d.serial + 1)) (dot_of r k) h in
      (off (sym (ap (λ (x : Dot). x.region) is))).1 (sym (ap (λ (x : Dot). x.serial) is))))
      ∙ cond-false _ _ _ (false_from_ne_true _ (λ h.
      let is : dot_of d.region s ≡ dot_of r k = tied (dot_of d.region s) (dot_of r k) h in
      (off (sym (ap (λ (x : Dot). x.region) is))).0 (sym (ap (λ (x : Dot). x.serial) is))))
      ∙ at

  -- the new run has the new dot, and what the runs beside it had
  new_has : (q : Dot) → q.region ≡ d.region → s ≤ q.serial → q.serial ≤ end → IsCovered n q
  new_has q region from to = record {
    first = s;
    has = record {
      last = end;
      here = subst (λ (r : ℕ). get dot_cmp n (dot_of r s) ≡ Some end) (sym region) at_start;
      low = from;
      high = to;
    };
  }

  -- the runs with one more dot cover it, and what they covered
  pub new_covers : (q : Dot) → (q ≡ d) ⊎ IsCovered m q → IsCovered n q
  new_covers q (inl same) =
      let e : q.serial ≡ d.serial = ap (λ (x : Dot). x.serial) same in
      let le = start_low in
      let ge = end_high in
      new_has q (ap (λ (x : Dot). x.region) same) (omega (arith, e, le)) (omega (arith, e, ge))
  new_covers q (inr x) = elim (cases_eq q.region d.region) [
    | inr other ↦ kept (λ region. absurd (other region))
    | inl region ↦ elim (cases_eq x.first s) [
      | inl first ↦ new_has q region (let low = x.has.low in omega (arith, low, first))
          (at_first first region)
      | inr apart ↦ elim (cases_eq x.first (d.serial + 1)) [
        | inl next ↦ new_has q region
            (let l = x.has.low in let le = start_low in omega (arith, l, le, next))
            (at_next next region)
        | inr more ↦ kept (λ _. (apart, more))
      ]
    ]
  ]
    where
      kept : (q.region ≡ d.region → (x.first ≢ s) × (x.first ≢ d.serial + 1)) → IsCovered n q
      kept off = record {
        first = x.first;
        has = record {
          last = x.has.last;
          here = stays q.region x.first x.has.last x.has.here off;
          low = x.has.low;
          high = x.has.high;
        };
      }

      here : q.region ≡ d.region → (k : ℕ) → x.first ≡ k
          → get dot_cmp m (dot_of d.region k) ≡ Some x.has.last
      here region k e = ap (get dot_cmp m)
          (dot_is (dot_of d.region k) (dot_of q.region x.first) (sym region) (sym e))
          ∙ x.has.here

      at_first : x.first ≡ s → q.region ≡ d.region → q.serial ≤ end
      at_first first region = elim low [
        | inl new ↦
            let same : x.first ≡ d.serial = first ∙ new.0 in
            absurd (free
            (record {
              first = d.serial;
              has = record {
                last = x.has.last;
                here = here region d.serial same;
                low = omega arith;
                high = subst (λ (k : ℕ). k ≤ x.has.last) same
                    (runs.rises (dot_of q.region x.first) x.has.last x.has.here);
              };
            }))
        | inr old ↦
            let last : old.0 ≡ x.has.last =
            some_same old.0 x.has.last (sym old.1 ∙ here region s first) in
            let high = x.has.high in
            let e = old.2 in
            let ge = end_high in
            omega (arith, last, high, e, ge)
      ]

      at_next : x.first ≡ d.serial + 1 → q.region ≡ d.region → q.serial ≤ end
      at_next next region = elim high [
        | inl none ↦ absurd (none_is x.has.last (sym none.1 ∙ here region (d.serial + 1) next))
        | inr old ↦
            let last : end ≡ x.has.last =
            some_same end x.has.last (sym old.1 ∙ here region (d.serial + 1) next) in
            let high = x.has.high in
            omega (arith, last, high)
      ]

  -- the runs with one more dot cover nothing else
  pub new_only : (q : Dot) → IsCovered n q → (q ≡ d) ⊎ IsCovered m q
  new_only q x = elim (at_any q.region x.first x.has.last x.has.here) [
    | inr old ↦ inr
        (record {
          first = x.first;
          has = record { last = x.has.last; here = old.0; low = x.has.low; high = x.has.high };
        })
    | inl new ↦ elim (cases_eq q.serial d.serial) [
      | inl same ↦ inl (dot_is q d new.0 same)
      | inr apart ↦ inr (elim (cases_lt q.serial d.serial) [
        | inl less ↦ lower new.0 (let l = x.has.low in let e = new.1 in omega (arith, l, e)) less
        | inr more ↦ upper new.0 (let h = x.has.high in let e = new.2 in omega (arith, h, e))
            (omega (arith, more, apart))
      ])
    ]
  ]
    where
      lower : q.region ≡ d.region → s ≤ q.serial → q.serial < d.serial → IsCovered m q
      lower region from less = elim low [
        | inl new ↦ (let e = new.0 in absurd (omega (arith, e, from, less)))
        | inr old ↦ record {
          first = s;
          has = record {
            last = old.0;
            here = subst (λ (r : ℕ). get dot_cmp m (dot_of r s) ≡ Some old.0) (sym region) old.1;
            low = from;
            high = (let e = old.2 in omega (arith, e, less));
          };
        }
      ]

      upper : q.region ≡ d.region → q.serial ≤ end → d.serial < q.serial → IsCovered m q
      upper region to more = elim high [
        | inl none ↦ (let e = none.0 in absurd (omega (arith, e, to, more)))
        | inr old ↦ record {
          first = d.serial + 1;
          has = record {
            last = end;
            here = subst (λ (r : ℕ). get dot_cmp m (dot_of r (d.serial + 1)) ≡ Some end)
                (sym region) old.1;
            low = omega (arith, more);
            high = to;
          };
        }
      ]

  -- what begins behind the new run's start begins behind its end, with a gap
  behind : (k other : ℕ) → get dot_cmp m (dot_of d.region k) ≡ Some other → s < k → k ≢ d.serial + 1
      → end + 1 < k
  behind k other at more off = elim high [
    | inl none ↦ (let e = none.0 in let late = late_than in omega (arith, e, late, off))
    | inr old ↦ runs.apart d.region (d.serial + 1) k end other old.1 at
        (let late = late_than in omega (arith, late, off))
  ]
    where
      late_than : d.serial < k
      late_than = elim low [
        | inl new ↦ (let e = new.0 in omega (arith, e, more))
        | inr old ↦ (let gap = runs.apart d.region s k old.0 other old.1 at more in
            let e = old.2 in omega (arith, gap, e))
      ]

  -- what begins before the new run's start ends before it, with a gap
  before : (k last : ℕ) → get dot_cmp m (dot_of d.region k) ≡ Some last → k < s → last + 1 < s
  before k last at less = elim low [
    | inr old ↦ runs.apart d.region k s last old.0 at old.1 less
    | inl new ↦
        let e = new.0 in
        let le : k ≤ d.serial = omega (arith, e, less) in
        let gap : last + 1 ≢ d.serial = new.1 k last le at in
        elim (cases_lt last d.serial) [
          | inl lt ↦ omega (arith, e, lt, gap)
          | inr ge ↦ absurd
              (free (record {
                first = k;
                has = record { last = last; here = at; low = le; high = ge };
              }))
        ]
  ]

  -- runs with one more dot are runs
  pub added_runs : IsOrdered dot_cmp n → 0 < s → end ≤ max_serial → IsRuns n
  added_runs ordered some ranged = record {
    ordered = ordered;
    rises = λ k last at. elim (at_any k.region k.serial last at) [
      | inl new ↦ (let e = new.1 in
          let f = new.2 in let le = start_low in let ge = end_high in omega (arith, e, f, le, ge))
      | inr old ↦ runs.rises k last old.0
    ];
    ranged = λ k last at. elim (at_any k.region k.serial last at) [
      | inl new ↦ (let f = new.2 in omega (arith, f, ranged))
      | inr old ↦ runs.ranged k last old.0
    ];
    some = λ k last at. elim (at_any k.region k.serial last at) [
      | inl new ↦ (let e = new.1 in omega (arith, e, some))
      | inr old ↦ runs.some k last old.0
    ];
    apart = λ r k q last other one two less. elim (at_any r k last one) [
      | inl new ↦ elim (at_any r q other two) [
        | inl same ↦ (let e = new.1 in let f = same.1 in absurd (omega (arith, e, f, less)))
        | inr old ↦
            let e = new.1 in
            let f = new.2 in
            let off : q ≢ d.serial + 1 = (old.1 new.0).1 in
            let gap : end + 1 < q = behind q other
            (subst (λ (x : ℕ). get dot_cmp m (dot_of x q) ≡ Some other) new.0 old.0)
            (omega (arith, e, less)) off in
            omega (arith, f, gap)
      ]
      | inr old ↦ elim (at_any r q other two) [
        | inl new ↦
            let e = new.1 in
            let gap : last + 1 < s = before k last
            (subst (λ (x : ℕ). get dot_cmp m (dot_of x k) ≡ Some last) new.0 old.0)
            (omega (arith, e, less)) in
            omega (arith, e, gap)
        | inr two' ↦ runs.apart r k q last other old.0 two'.0 less
      ]
    ];
  }

  -- the set with the new dot
  pub added : IsOrdered dot_cmp n → run_set n.entries ≡ set.insert (run_set m.entries) d
  added ordered = set.same_set dot_cmp_total dot_cmp-IsAntisymmetric _ _
      (λ q. sym (covered_is n ordered q (set.contains (set.insert (run_set m.entries) d) q)
      (λ h. elim (or_cases (eq_by_cmp dot_cmp q d) (set.contains (run_set m.entries) q)
      (sym (set.contains-insert dot_cmp_total (run_set m.entries) d q) ∙ h)) [
        | inl same ↦ new_covers q (inl (tied q d same))
        | inr old ↦ new_covers q (inr (covers m runs.ordered q old))
      ])
      (λ none x. false≢true
      (sym none ∙ set.contains-insert dot_cmp_total (run_set m.entries) d q ∙ elim (new_only q x) [
        | inl same ↦ or_left _ _ (tied_same q d same)
        | inr old ↦ or_right _ _ (has_dot m q old)
      ]))))
