-- Walks over the dots of runs. Key results:
--   next_right, next_first   the least dot above a dot
--   last_in, last_none       the greatest serial of a region
use Rattle.std.proofs.Common.{◌≡◌, ℕ, ◌+◌, ◌<◌, ◌≤◌, true, false, slice_get, IfSome, List}
use Rattle.std.proofs.Common.{◌∷◌, Option, Some, None, IsSome, is_some, refl, sym, ap, subst}
use Rattle.std.proofs.Common.{◌∙◌, inl, inr, arith}
use Rattle.std.proofs.lemmas.Bool.{cases_Bool, cases_lt, false_from_ne_true}
use Rattle.std.proofs.lemmas.Bool.Decides.{nat_tests}
use Rattle.std.specs.Ordering.{is_lt}
use Rattle.std.specs.BTreeMap.{get}
use Rattle.std.specs.BTreeMap.Range.{IsLeBy, IsRangeOf, IsEntryInRange}
use Rattle.std.specs.declared.ops.Bound.TheVariants.{Unbounded}
use Rattle.std.specs.FinSet as set
use Rattle.tk_handle.specs.declared.dot.Dot.{Dot}
use Rattle.tk_handle.specs.Dot.{dot_cmp}
use Rattle.tk_handle.specs.Ranges.{max_serial}
use mathlib.Core.Bool.{false≢true}
use Rattle.tk_dots.specs.Runs.{Runs, DotSet, dot_of, run_set, IsCovered, IsRuns, IsFirstAbove}
use Rattle.tk_dots.specs.Runs.{IsRightAbove, IsNextIn, IsLastIn}
use Rattle.tk_dots.proofs.OrderLaws.{le_not_lt}
use Rattle.tk_dots.proofs.PlaceLaws.{dot_is}
use Rattle.tk_dots.proofs.RunLaws.{covers, has_dot}
use Rattle.tk_handle.proofs.TestLaws.{not_none as none_some}
use Rattle.std.proofs.lemmas.Option.{same_Some as some_same}

-- a dot that is not below another, where a third is not above it, is not below that either
not_lower : (q k f : Dot) → k.region ≡ q.region → k.serial ≤ q.serial → is_lt (dot_cmp k f) ≡ false
    → is_lt (dot_cmp q f) ≡ false
not_lower q k f region le h = grind (arith, nat_tests)

module _ (m : Runs) (runs : IsRuns m) where
  -- the dots of the runs
  abbrev S : DotSet
  S = run_set m.entries

  -- the first dot of a run is in the set
  first_in : (f : Dot) → IsSome (get dot_cmp m f) → set.contains S f ≡ true
  first_in f some = by_value (get dot_cmp m f) refl some
    where
      by_value : (o : Option ℕ) → get dot_cmp m f ≡ o → IsSome o → set.contains S f ≡ true
      by_value None at h = absurd (false≢true h)
      by_value (Some last) at h = has_dot m f
          (record {
            first = f.serial;
            has = record {
              last = last;
              here = ap (get dot_cmp m) (dot_is (dot_of f.region f.serial) f refl refl) ∙ at;
              low = omega arith;
              high = runs.rises f last at;
            };
          })

  -- the run that covers a dot is there at its first dot
  begins : (q : Dot) (x : IsCovered m q) → IsSome (get dot_cmp m (dot_of q.region x.first))
  begins q x = ap is_some x.has.here

  -- a run that has a dot above another, and begins no later than that, has the dot right above it
  over_next : (d q : Dot) → is_lt (dot_cmp d q) ≡ true → (x : IsCovered m q)
      → is_lt (dot_cmp d (dot_of q.region x.first)) ≡ false
      → set.contains S (dot_of d.region (d.serial + 1)) ≡ true
  over_next d q above x early =
      let region : q.region ≡ d.region =
      one_region d q (dot_of q.region x.first) refl above early in
      let more : d.serial < q.serial = later d q (dot_of q.region x.first) refl above early in
      let low : x.first ≤ d.serial = no_later d q (dot_of q.region x.first) refl above early in
      let high = x.has.high in
      has_dot m (dot_of d.region (d.serial + 1)) (record {
        first = x.first;
        has = record {
          last = x.has.last;
          here = subst (λ (r : ℕ). get dot_cmp m (dot_of r x.first) ≡ Some x.has.last) region
              x.has.here;
          low = omega (arith, low);
          high = omega (arith, more, high);
        };
      })
    where
      one_region : (d q k : Dot) → k.region ≡ q.region → is_lt (dot_cmp d q) ≡ true
          → is_lt (dot_cmp d k) ≡ false → q.region ≡ d.region
      one_region d q k e h i = grind (arith, nat_tests)

      later : (d q k : Dot) → k.region ≡ q.region → is_lt (dot_cmp d q) ≡ true
          → is_lt (dot_cmp d k) ≡ false → d.serial < q.serial
      later d q k e h i = grind (arith, nat_tests)

      no_later : (d q k : Dot) → k.region ≡ q.region → is_lt (dot_cmp d q) ≡ true
          → is_lt (dot_cmp d k) ≡ false → k.serial ≤ d.serial
      no_later d q k e h i = grind (arith, nat_tests)

  -- where the dot right above is not in the set, the next begins a run
  pub next_first : (after : Option Dot) → ((d : Dot) → after ≡ Some d → IsRightAbove S d None)
      → (r : Option Dot) → IsFirstAbove m after r → IsNextIn S after r
  next_first None right None none = λ q above.
      false_from_ne_true _
      (λ h. (let x = covers m runs.ordered q h in
      none_some _ (none (dot_of q.region x.first) tt) (begins q x)))
  next_first None right (Some f) first = (
    first_in f first.1,
    tt,
    λ q above h.
        (let x = covers m runs.ordered q h in
        not_lower q (dot_of q.region x.first) f refl x.has.low
        (first.2 (dot_of q.region x.first) tt (begins q x))),
  )
  next_first (Some d) right None none = λ q above. false_from_ne_true _ (λ h.
      (let x = covers m runs.ordered q h in
      elim (cases_Bool (is_lt (dot_cmp d (dot_of q.region x.first)))) [
        | inl late ↦ none_some _ (none (dot_of q.region x.first) late) (begins q x)
        | inr early ↦ false≢true (sym (right d refl) ∙ over_next d q above x early)
      ]))
  next_first (Some d) right (Some f) first = (
    first_in f first.1,
    first.0,
    λ q above h. (let x = covers m runs.ordered q h in
        elim (cases_Bool (is_lt (dot_cmp d (dot_of q.region x.first)))) [
          | inl late ↦ not_lower q (dot_of q.region x.first) f refl x.has.low
              (first.2 (dot_of q.region x.first) late (begins q x))
          | inr early ↦ absurd (false≢true (sym (right d refl) ∙ over_next d q above x early))
        ]),
  )

  -- the dot right above is the next
  pub next_right : (d q : Dot) → IsRightAbove S d (Some q) → IsNextIn S (Some d) (Some q)
  next_right d q h = (
    h.1,
    up d q (ap (λ (x : Dot). x.region) h.0) (ap (λ (x : Dot). x.serial) h.0),
    λ p above in_set.
        least d q p (ap (λ (x : Dot). x.region) h.0) (ap (λ (x : Dot). x.serial) h.0) above,
  )
    where
      up : (d q : Dot) → q.region ≡ d.region → q.serial ≡ d.serial + 1 → is_lt (dot_cmp d q) ≡ true
      up d q e f = grind (arith, nat_tests)

      least : (d q p : Dot) → q.region ≡ d.region → q.serial ≡ d.serial + 1
          → is_lt (dot_cmp d p) ≡ true → is_lt (dot_cmp p q) ≡ false
      least d q p e f above = grind (arith, nat_tests)

  -- ---- the greatest serial of a region

  module _ (r : ℕ) (first last : Dot) (lo : first ≡ dot_of r 1)
      (hi : last ≡ dot_of r max_serial) where
    -- a dot between the least and the greatest of a region is of that region
    region_of : (e : Dot) → IsLeBy dot_cmp (dot_of r 1) e
        → IsLeBy dot_cmp e (dot_of r max_serial) → e.region ≡ r
    region_of e low high = grind (arith, nat_tests)

    -- a serial in range gives a dot between the least and the greatest of the region
    within : (n : ℕ) → 0 < n → n ≤ max_serial
        → IsLeBy dot_cmp first (dot_of r n) × IsLeBy dot_cmp (dot_of r n) last
    within n some high = (
      subst (λ (x : Dot). IsLeBy dot_cmp x (dot_of r n)) (sym lo) (from n some),
      subst (λ (x : Dot). IsLeBy dot_cmp (dot_of r n) x) (sym hi) (to n high),
    )
      where
        from : (n : ℕ) → 0 < n → IsLeBy dot_cmp (dot_of r 1) (dot_of r n)
        from n h = grind (arith, nat_tests)

        to : (n : ℕ) → n ≤ max_serial → IsLeBy dot_cmp (dot_of r n) (dot_of r max_serial)
        to n h = grind (arith, nat_tests)

    -- each run of the region begins between the two dots
    run_within : (k end : ℕ) → get dot_cmp m (dot_of r k) ≡ Some end
        → IsLeBy dot_cmp first (dot_of r k) × IsLeBy dot_cmp (dot_of r k) last
    run_within k end at =
        let some = runs.some (dot_of r k) end at in
        let rises = runs.rises (dot_of r k) end at in
        let high = runs.ranged (dot_of r k) end at in
        within k some (omega (arith, rises, high))

    -- the last serial of a region is the end of its last run
    pub last_in : (k : Dot) (end : ℕ) → IsLeBy dot_cmp first k × IsLeBy dot_cmp k last
        → get dot_cmp m k ≡ Some end
        → ((q : Dot) → IsLeBy dot_cmp first q × IsLeBy dot_cmp q last → IsSome (get dot_cmp m q)
        → is_lt (dot_cmp k q) ≡ false) → IsLastIn S r end
    last_in k end inside at top =
        let region : k.region ≡ r = region_of k
        (subst (λ (x : Dot). IsLeBy dot_cmp x k) lo inside.0)
        (subst (λ (x : Dot). IsLeBy dot_cmp k x) hi inside.1) in
        let here : get dot_cmp m (dot_of r k.serial) ≡ Some end =
        ap (get dot_cmp m) (dot_is (dot_of r k.serial) k (sym region) refl) ∙ at in
        record {
          there = λ _. has_dot m (dot_of r end)
              (record {
                first = k.serial;
                has =
                    record {
                      last = end;
                      here = here;
                      low = runs.rises k end at;
                      high = omega arith;
                    };
              });
          greatest = λ n h. (let x = covers m runs.ordered (dot_of r n) h in
              most n x
              (no_higher k (dot_of r x.first) region
              (top (dot_of r x.first) (run_within x.first x.has.last x.has.here)
              (ap is_some x.has.here))) here);
        }
      where
        no_higher : (k q : Dot) → k.region ≡ q.region → is_lt (dot_cmp k q) ≡ false
            → q.serial ≤ k.serial
        no_higher k q e h = grind (arith, nat_tests)

        most : (n : ℕ) (x : IsCovered m (dot_of r n)) → x.first ≤ k.serial
            → get dot_cmp m (dot_of r k.serial) ≡ Some end → n ≤ end
        most n x le here = elim (cases_lt x.first k.serial) [
          | inl lt ↦
              let gap : x.has.last + 1 < k.serial =
              runs.apart r x.first k.serial x.has.last end x.has.here here lt in
              let high : n ≤ x.has.last = x.has.high in
              let rises : k.serial ≤ end = runs.rises k end at in
              omega (arith, gap, high, rises)
          | inr ge ↦
              let same : x.first ≡ k.serial = omega (arith, le, ge) in
              let one : x.has.last ≡ end = some_same x.has.last end
              (sym x.has.here ∙ ap (λ (i : ℕ). get dot_cmp m (dot_of r i)) same ∙ here) in
              let high : n ≤ x.has.last = x.has.high in
              omega (arith, one, high)
        ]

    -- a region without a run has the last serial 0
    pub last_none : ((q : Dot) → IsLeBy dot_cmp first q × IsLeBy dot_cmp q last
        → get dot_cmp m q ≡ None)
        → IsLastIn S r 0
    last_none none = record {
      there = λ some. absurd (omega (arith, some));
      greatest = λ n h. (let x = covers m runs.ordered (dot_of r n) h in
          absurd (none_some _ (none (dot_of r x.first) (run_within x.first x.has.last x.has.here))
          (ap is_some x.has.here)));
    }

-- the first run is the first of all
pub first_all : (m : Runs) (part rest : List (Dot × ℕ)) (k : Dot) (v : ℕ)
    → IsRangeOf dot_cmp Unbounded Unbounded m part → part ≡ (k, v) ∷ rest
    → IsFirstAbove m None (Some k)
first_all m part rest k v range steps =
    let there : IfSome (slice_get ((k, v) ∷ rest) 0)
    (IsEntryInRange dot_cmp Unbounded Unbounded m) =
    subst (λ (l : List (Dot × ℕ)).
    IfSome (slice_get l 0) (IsEntryInRange dot_cmp Unbounded Unbounded m)) steps range.1 in (
      tt,
      ap is_some there.1,
      λ q above held.
          le_not_lt k q
          (subst (λ (l : List (Dot × ℕ)). IfSome (slice_get l 0) (λ e. IsLeBy dot_cmp e.0 q)) steps
          (range.2 q (tt, tt) held)),
    )
