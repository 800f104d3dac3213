-- A set has one front, which follows what is put and taken. Key results:
--   front_from_next, next_of_front    the front is where the next serial is not held
--   front_put                         a fact that is not the next of its region leaves the front
--   front_advanced                    the next fact of a region moves the front to the end of the
--                                     run
--   front_taken                       a fact taken out lowers its region's front to below the fact
--   front_empty                       the front of the empty set
use Rattle.std.proofs.Common.{◌≡◌, ◌≢◌, ℕ, ◌+◌, ◌-◌, ◌<◌, ◌≤◌, ◌==◌, cond, if◌then◌else◌, max, min}
use Rattle.std.proofs.Common.{Option, Some, None, IsSome, is_some, refl, sym, ap, subst, ◌∙◌, arith}
use Rattle.std.proofs.Common.{◌⊎◌, inl, inr}
use mathlib.Core.Bool.{false≢true}
use Rattle.std.specs.Ordering.{eq_by_cmp, is_eq}
use Rattle.std.specs.FinMap as map
use Rattle.std.proofs.lemmas.Bool.{cases_lt, cases_Bool, cond-true, cond-false}
use Rattle.std.proofs.lemmas.Bool.Decides.{nat_tests}
use Rattle.std.proofs.lemmas.Cmp.{tied_itself}
use Rattle.tk_handle.specs.declared.dot.Dot.{Dot}
use Rattle.tk_handle.specs.Dot.{dot_cmp, dot_cmp_total}
use Rattle.tk_vector.specs.VersionVector.{Vector, entry, raised, lowered}
use Rattle.tk_vector.proofs.VersionVectorLaws.{entry_empty, entry_raised, entry_lowered}
use Rattle.tk_store.specs.Front.{dot_at, HeldUpTo, IsFrontAt, IsFront}
use Rattle.tk_fact.specs.Check.{refusal_of}
use Rattle.tk_fact.specs.declared.body.Body.{Body}
use Rattle.tk_store.specs.FactSet.{IsFactSet}
use Rattle.tk_store.specs.Slots.{Slot, Slots, Held, Skipped, held_in, held_slot, without_fact}
use Rattle.tk_store.specs.StoreFields.{IsKept}
use Rattle.tk_handle.proofs.TestLaws.{tied}
use Rattle.tk_store.proofs.PutLaws.{by_dot, taken_back, get_here, IsFactSet-empty, IsFactSet-insert}
use Rattle.tk_store.proofs.PutLaws.{IsFactSet-remove}
use Rattle.tk_store.proofs.SlotLaws.{held_none, held_put, held_skip, held_taken, remove_free}
use Rattle.tk_handle.proofs.TestLaws.{not_none as nothing_held}

-- two numbers are equal or not
cases_same : (a b : ℕ) → (a ≡ b) ⊎ (a ≢ b)
cases_same a b = elim (cases_lt a b) [
  | inl lt ↦ inr (λ e. absurd (omega (arith, e)))
  | inr ge ↦ elim (cases_lt b a) [
    | inl gt ↦ inr (λ e. absurd (omega (arith, e)))
    | inr le ↦ inl (omega arith)
  ]
]

module _ {X : Type 0} where
  -- the front is where the next dot is free
  pub front_from_next : (F : map.FinMap dot_cmp X) (r n : ℕ) → HeldUpTo F r n
      → map.get F (dot_at r (n + 1)) ≡ None → IsFrontAt F r n
  front_from_next F r n held next = record {
    held = held;
    greatest = λ m h. elim (cases_lt n m) [
      | inl lt ↦ absurd
          (nothing_held (map.get F (dot_at r (n + 1))) next (h (n + 1) (omega arith) (omega arith)))
      | inr ge ↦ ge
    ];
  }

  -- the dot behind the front is free
  pub next_of_front : (F : map.FinMap dot_cmp X) (r n : ℕ) → IsFrontAt F r n
      → map.get F (dot_at r (n + 1)) ≡ None
  next_of_front F r n f = by_next (map.get F (dot_at r (n + 1))) refl
    where
      by_next : (o : Option X) → map.get F (dot_at r (n + 1)) ≡ o → o ≡ None
      by_next None at = refl
      by_next (Some x) at =
          let more : n + 1 ≤ n = f.greatest (n + 1) (λ k low le. elim (cases_lt n k) [
            | inl lt ↦ let same : n + 1 ≡ k = omega arith in
                subst (λ (j : ℕ). IsSome (map.get F (dot_at r j))) same (ap is_some at)
            | inr ge ↦ f.held k low ge
          ]) in
          absurd (omega arith)

  -- ---- without the fact at a dot

  -- a dot that was removed has nothing
  gone : (G : map.FinMap dot_cmp X) (d : Dot) → map.get (map.remove G d) d ≡ None
  gone G d = map.get-remove dot_cmp_total G d d
      ∙ ap (λ o. cond (is_eq o) None (map.get G d)) (tied_itself dot_cmp_total d)

  -- a removal leaves what is at each other dot
  kept_there : (G : map.FinMap dot_cmp X) (d q : Dot) → q ≢ d
      → map.get (map.remove G d) q ≡ map.get G q
  kept_there G d q other = elim (cases_Bool (eq_by_cmp dot_cmp q d)) [
    | inl same ↦ absurd (other (tied q d same))
    | inr apart ↦ map.get-remove dot_cmp_total G d q
        ∙ cond-false (eq_by_cmp dot_cmp q d) None (map.get G q) apart
  ]

  -- a dot that has something after a removal had something before
  held_before : (G : map.FinMap dot_cmp X) (d q : Dot) → IsSome (map.get (map.remove G d) q)
      → IsSome (map.get G q)
  held_before G d q h = elim (cases_Bool (eq_by_cmp dot_cmp q d)) [
    | inl same ↦ absurd
        (nothing_held (map.get (map.remove G d) q)
        (map.get-remove dot_cmp_total G d q
        ∙ cond-true (eq_by_cmp dot_cmp q d) None (map.get G q) same) h)
    | inr apart ↦ subst IsSome
        (map.get-remove dot_cmp_total G d q
        ∙ cond-false (eq_by_cmp dot_cmp q d) None (map.get G q) apart) h
  ]

  -- a dot that had nothing has nothing after a removal
  none_after : (G : map.FinMap dot_cmp X) (d q : Dot) → map.get G q ≡ None
      → map.get (map.remove G d) q ≡ None
  none_after G d q none = elim (cases_Bool (eq_by_cmp dot_cmp q d)) [
    | inl same ↦ map.get-remove dot_cmp_total G d q
        ∙ cond-true (eq_by_cmp dot_cmp q d) None (map.get G q) same
    | inr apart ↦ map.get-remove dot_cmp_total G d q
        ∙ cond-false (eq_by_cmp dot_cmp q d) None (map.get G q) apart ∙ none
  ]

  -- ---- one fact more

  module _ (G : map.FinMap dot_cmp X) (d : Dot) where
    -- a front without the dot is a front with the dot, unless the dot is next
    stays : (r n : ℕ) → IsFrontAt (map.remove G d) r n → dot_at r (n + 1) ≢ d → IsFrontAt G r n
    stays r n f other =
        front_from_next G r n (λ k low le. held_before G d (dot_at r k) (f.held k low le))
        (sym (kept_there G d (dot_at r (n + 1)) other) ∙ next_of_front (map.remove G d) r n f)

    -- a dot right above the front moves the front to the end of the run
    moves : (n end : ℕ) → IsFrontAt (map.remove G d) d.region n → d.serial ≡ n + 1
        → ((k : ℕ) → d.serial ≤ k → k ≤ end → IsSome (map.get G (dot_at d.region k)))
        → map.get G (dot_at d.region (end + 1)) ≡ None
        → IsFrontAt G d.region end
    moves n end f is run next =
        front_from_next G d.region end (λ k low le. elim (cases_lt k d.serial) [
          | inl lt ↦ held_before G d (dot_at d.region k) (f.held k low (omega arith))
          | inr ge ↦ run k ge le
        ]) next

    -- a fact that is not the next of its region leaves the front
    pub front_put : (v : Vector) → IsFront (map.remove G d) v → d.serial ≢ entry v d.region + 1
        → IsFront G v
    front_put v front other r = stays r (entry v r) (front r) (λ same.
        other (sym (ap (λ (x : Dot). x.serial) same)
        ∙ ap (λ (k : ℕ). entry v k + 1) (ap (λ (x : Dot). x.region) same)))

    -- the next fact of a region moves the front to the end of the run of serials held without a gap
    pub front_advanced : (v : Vector) (end : ℕ) → IsFront (map.remove G d) v
        → d.serial ≡ entry v d.region + 1 → d.serial ≤ end
        → ((k : ℕ) → d.serial ≤ k → k ≤ end → IsSome (map.get G (dot_at d.region k)))
        → map.get G (dot_at d.region (end + 1)) ≡ None
        → IsFront G (raised v d.region end)
    front_advanced v end front is from run next r = elim (cases_same r d.region) [
      | inl same ↦
          let at : entry (raised v d.region end) r ≡ end =
          entry_raised v d.region end r
          ∙ raised_here r d.region (entry v d.region) (entry v r) same (omega arith) in
          subst (IsFrontAt G r) (sym at)
          (subst (λ (k : ℕ). IsFrontAt G k end) (sym same)
          (moves (entry v d.region) end (front d.region) is run next))
      | inr apart ↦
          let at : entry (raised v d.region end) r ≡ entry v r =
          entry_raised v d.region end r
          ∙ raised_there r d.region (entry v d.region) (entry v r) apart in
          subst (IsFrontAt G r) (sym at)
          (stays r (entry v r) (front r) (λ same. apart (ap (λ (x : Dot). x.region) same)))
    ]
      where
        raised_here : (q r n m : ℕ) → q ≡ r → n ≤ end → (if q == r then max end n else m) ≡ end
        raised_here q r n m same le = grind (arith, nat_tests)

        raised_there : (q r n m : ℕ) → q ≢ r → (if q == r then max end n else m) ≡ m
        raised_there q r n m apart = grind (arith, nat_tests)

    -- ---- one fact less

    -- a removal lowers the front to right below the removed dot, or leaves the front
    falls : (r n m : ℕ) → IsFrontAt G r n → m ≤ n → ((k : ℕ) → 0 < k → k ≤ m → dot_at r k ≢ d)
        → (dot_at r (m + 1) ≡ d) ⊎ (m ≡ n) → IsFrontAt (map.remove G d) r m
    falls r n m f le others edge = front_from_next (map.remove G d) r m
        (λ k low within.
        subst IsSome (sym (kept_there G d (dot_at r k) (others k low within)))
        (f.held k low (omega arith)))
        (elim edge [
          | inl here ↦ ap (map.get (map.remove G d)) here ∙ gone G d
          | inr same ↦ none_after G d (dot_at r (m + 1))
              (ap (λ (k : ℕ). map.get G (dot_at r (k + 1))) same ∙ next_of_front G r n f)
        ])

    -- the front once a fact was taken out
    pub front_taken : (v : Vector) → IsFront G v → 0 < d.serial
        → IsFront (map.remove G d) (lowered v d.region (d.serial - 1))
    front_taken v front some r = elim (cases_same r d.region) [
      | inl same ↦
          let at : entry (lowered v d.region (d.serial - 1)) r ≡ min (d.serial - 1) (entry v r) =
          entry_lowered v d.region (d.serial - 1) r
          ∙ lowered_here r d.region (entry v d.region) (entry v r) same (ap (entry v) (sym same)) in
          subst (IsFrontAt (map.remove G d) r) (sym at)
          (falls r (entry v r) (min (d.serial - 1) (entry v r)) (front r) (omega arith)
          (λ k low within is. let serial = ap (λ (x : Dot). x.serial) is in absurd (omega arith))
          (elim (cases_lt (entry v r) d.serial) [
            | inl above ↦ inr (omega arith)
            | inr under ↦ inl (named r d same (min (d.serial - 1) (entry v r) + 1) (omega arith))
          ]))
      | inr apart ↦
          let at : entry (lowered v d.region (d.serial - 1)) r ≡ entry v r =
          entry_lowered v d.region (d.serial - 1) r
          ∙ lowered_there r d.region (entry v d.region) (entry v r) apart in
          subst (IsFrontAt (map.remove G d) r) (sym at)
          (falls r (entry v r) (entry v r) (front r) (omega arith)
          (λ k low within is. apart (ap (λ (x : Dot). x.region) is)) (inr refl))
    ]
      where
        lowered_here : (q r n m : ℕ) → q ≡ r → n ≡ m
            → (if q == r then min (d.serial - 1) n else m) ≡ min (d.serial - 1) m
        lowered_here q r n m same alike = grind (arith, nat_tests)

        lowered_there : (q r n m : ℕ) → q ≢ r → (if q == r then min (d.serial - 1) n else m) ≡ m
        lowered_there q r n m apart = grind (arith, nat_tests)

        named : (r : ℕ) (d : Dot) → r ≡ d.region → (k : ℕ) → k ≡ d.serial → dot_at r k ≡ d
        named r d same k is = λ i. record { region = same i; serial = is i }

  -- the front of nothing is the empty vector
  pub front_empty : (v : Vector) → v ≡ map.empty → IsFront (map.empty {X = X} {R = dot_cmp}) v
  front_empty v none r = subst (λ (n : ℕ). IsFrontAt {X = X} map.empty r n)
      (sym (ap (λ (w : Vector). entry w r) none ∙ entry_empty r))
      (front_from_next map.empty r 0 (λ k low le. absurd (omega arith))
      (map.get-empty dot_cmp (dot_at r 1)))

-- ---- a run of serials

-- what is known at a dot and behind it
pub known_from : (S : Slots) (d : Dot) (end : ℕ) → IsSome (map.get S d)
    → ((k : ℕ) → d.serial < k → k ≤ end → IsSome (map.get S (dot_at d.region k)))
    → (k : ℕ) → d.serial ≤ k → k ≤ end → IsSome (map.get S (dot_at d.region k))
known_from S d end here behind k from to = elim (cases_lt d.serial k) [
  | inl lt ↦ behind k lt to
  | inr ge ↦ subst (λ (x : Dot). IsSome (map.get S x)) (dot_by d k (omega (arith, ge, from))) here
]
  where
    dot_by : (d : Dot) (k : ℕ) → k ≡ d.serial → d ≡ dot_at d.region k
    dot_by d k e = λ i. record { region = d.region; serial = sym e i }

module _ (S : Slots) (d : Dot) (free : map.get S d ≡ None) (x : Slot) where
  -- a slot put at a free dot and removed again leaves the slots
  without_new : map.remove (map.insert S d x) d ≡ S
  without_new = taken_back S d x free

  -- a slot that is not the next of its region leaves the front
  pub past_put : (v : Vector) → IsFront S v → d.serial ≢ entry v d.region + 1
      → IsFront (map.insert S d x) v
  past_put v front other = front_put (map.insert S d x) d v
      (subst (λ (R : Slots). IsFront R v) (sym without_new) front) other

  -- the next slot of a region moves the front to the end of the run behind it
  pub past_advanced : (v : Vector) (end : ℕ) → IsFront S v → d.serial ≡ entry v d.region + 1
      → d.serial ≤ end
      → ((k : ℕ) → d.serial < k → k ≤ end → IsSome (map.get S (dot_at d.region k)))
      → map.get S (dot_at d.region (end + 1)) ≡ None
      → IsFront (map.insert S d x) (raised v d.region end)
  past_advanced v end front is from behind next =
      front_advanced (map.insert S d x) d v end
      (subst (λ (R : Slots). IsFront R v) (sym without_new) front) is from
      (known_from (map.insert S d x) d end (ap is_some (get_here S d x))
      (λ k lt to. by_dot IsSome S d x (dot_at d.region k) (λ _. refl) (behind k lt to)))
      (by_dot (λ o. o ≡ None) S d x (dot_at d.region (end + 1)) (λ same. absurd (not_here same))
      next)
    where
      not_here : dot_at d.region (end + 1) ≡ d → ⊥
      not_here same = (let e : end + 1 ≡ d.serial = ap (λ (y : Dot). y.serial) same in
          absurd (omega (arith, e, from)))

  -- the front without the slot again
  pub past_lowered : (v : Vector) → IsFront (map.insert S d x) v → 0 < d.serial
      → IsFront S (lowered v d.region (d.serial - 1))
  past_lowered v front some = subst (λ (R : Slots). IsFront R (lowered v d.region (d.serial - 1)))
      without_new (front_taken (map.insert S d x) d v front some)

-- ---- the slots of a store and its front

-- no slots and the empty vector are kept
pub kept_nothing : (S : Slots) (v : Vector) → S ≡ map.empty → v ≡ map.empty → IsKept S v
kept_nothing S v none zero_front = record {
  sound = subst IsFactSet (sym (held_none S none)) IsFactSet-empty;
  front_is = subst (λ (R : Slots). IsFront R v) (sym none) (front_empty v zero_front);
}

-- slots without one, and the vector lowered to before it, are kept
pub kept_taken : (S : Slots) (v : Vector) (d : Dot) → IsKept S v → 0 < d.serial
    → IsKept (map.remove S d) (lowered v d.region (d.serial - 1))
kept_taken S v d kept some = record {
  sound = subst IsFactSet (sym (held_taken S d)) (IsFactSet-remove (held_in S) d kept.sound);
  front_is = front_taken S d v kept.front_is some;
}

-- a dot that stays known leaves the front
same_keys : (S R : Slots) (v : Vector) → ((q : Dot) → is_some (map.get R q) ≡ is_some (map.get S q))
    → IsFront S v → IsFront R v
same_keys S R v same front r = record {
  held = λ k low le. same (dot_at r k) ∙ (front r).held k low le;
  greatest = λ m h. (front r).greatest m (λ k low le. sym (same (dot_at r k)) ∙ h k low le);
}

-- slots in which a fact became a mark are kept with the same vector
pub kept_skipped : (S : Slots) (v : Vector) (d : Dot) → IsKept S v → IsSome (map.get S d)
    → IsKept (map.insert S d Skipped) v
kept_skipped S v d kept known = record {
  sound = subst IsFactSet (sym (held_skip S d)) (IsFactSet-remove (held_in S) d kept.sound);
  front_is = same_keys S (map.insert S d Skipped) v
      (λ q. by_dot (λ o. is_some o ≡ is_some (map.get S q)) S d Skipped q
      (λ same. sym known ∙ ap (λ (x : Dot). is_some (map.get S x)) (sym same)) refl) kept.front_is;
}

-- slots with one more fact that passes are kept with their front
pub kept_new : (S R : Slots) (v w : Vector) (d : Dot) (b : Body) → IsKept S v → refusal_of b ≡ None
    → R ≡ map.insert S d (Held b) → IsFront R w → IsKept R w
kept_new S R v w d b kept passes is front = record {
  sound = subst IsFactSet (sym (ap held_in is ∙ held_put S d b))
      (IsFactSet-insert (held_in S) d b kept.sound passes);
  front_is = front;
}

-- slots with one more mark are kept with their front
pub kept_marked : (S R : Slots) (v w : Vector) (d : Dot) → IsKept S v → R ≡ map.insert S d Skipped
    → IsFront R w → IsKept R w
kept_marked S R v w d kept is front = record {
  sound = subst IsFactSet (sym (ap held_in is ∙ held_skip S d))
      (IsFactSet-remove (held_in S) d kept.sound);
  front_is = front;
}

-- a fact that was put is taken out
pub put_taken : (S R Q : Slots) (d : Dot) (b : Body) → R ≡ map.insert S d (Held b)
    → Q ≡ without_fact R d (map.get R d) → Q ≡ map.remove R d
put_taken S R Q d b is rest =
    rest ∙ ap (without_fact R d) (ap (λ (X : Slots). map.get X d) is ∙ get_here S d (Held b))

-- slots without a fact are kept with the lowered vector
pub kept_without : (S : Slots) (v : Vector) (d : Dot) (o : Option Slot) → map.get S d ≡ o
    → IsSome (held_slot o) → IsKept S v → 0 < d.serial
    → IsKept (without_fact S d o) (lowered v d.region (d.serial - 1))
kept_without S v d None at some kept high = absurd (false≢true some)
kept_without S v d (Some (Held b)) at some kept high = kept_taken S v d kept high
kept_without S v d (Some Skipped) at some kept high = absurd (false≢true some)

-- without a fact there, nothing changes
pub without_none : (S : Slots) (d : Dot) (o : Option Slot) → map.get S d ≡ o → held_slot o ≡ None
    → without_fact S d o ≡ S
without_none S d None at none = remove_free S d at
without_none S d (Some (Held b)) at none = absurd (some_none b none)
  where
    some_none : (x : Body) → Some x ≡ None → ⊥
    some_none x h = cc
without_none S d (Some Skipped) at none = refl
