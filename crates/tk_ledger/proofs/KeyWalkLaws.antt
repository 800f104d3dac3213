-- Keys of one subject, which are in the order of their dots, and a walk over them. A key has a dot
-- and a tail, which its dot determines. Key results:
--   span_forward      the span above a dot runs forward
--   inside            the key of each dot above the dot is in the span
--   walk_keys         what a view shows at the keys of the span is what it shows above the dot
use Rattle.std.proofs.Common.{◌≡◌, Bool, true, false, not, cond, T, List, [], ◌∷◌, filter}
use Rattle.std.proofs.Common.{Option, Some, None, is_some, refl, sym, ap, subst, ◌∙◌, inl, inr}
use Rattle.std.proofs.lemmas.Bool.{true≢false, cases_Bool, cond-true, cond-false, or_cases}
use Rattle.std.proofs.lemmas.Bool.{or_left, or_right, and_parts, and_from}
use Rattle.std.proofs.lemmas.Cmp.{tied_itself}
use Rattle.std.specs.BTreeMap.{is_at}
use Rattle.std.specs.BTreeMap.Range.{range_contains, IsLeBy, IsLtBy}
use Rattle.std.specs.Cmp.{IsTotalOrder}
use Rattle.std.specs.FinMap as maps
use Rattle.std.specs.FinMap.Entries.{below_all}
use Rattle.std.specs.List.{AllByRecursion, filter_map}
use Rattle.std.specs.List.Sorted.{IsStrictlySortedBy}
use Rattle.std.specs.Ordering.{eq_by_cmp, ordering_then, ordering_reverse, is_eq, is_lt, is_le}
use Rattle.std.specs.Ordering.{is_gt}
use Rattle.std.specs.Range.Bound.{IsForward}
use Rattle.std.specs.declared.cmp.Ordering.{Ordering}
use Rattle.std.specs.declared.cmp.Ordering.TheVariants.{Less, Equal, Greater}
use Rattle.std.specs.declared.ops.Bound.{Bound}
use Rattle.std.specs.declared.ops.Bound.TheVariants.{Included, Excluded}
use Rattle.tk_handle.specs.declared.dot.Dot.{Dot}
use Rattle.tk_handle.specs.Dot.{IsDot, dot_cmp, dot_cmp_total, least_dot, greatest_dot}
use Rattle.tk_handle.proofs.SpanLaws.{from_first, to_last}
use Rattle.tk_handle.proofs.TestLaws.{and as joined}
use Rattle.tk_store.specs.FactSet.{FactSet}
use Rattle.tk_store.specs.Walk.{above}
use Rattle.tk_handle.proofs.TestLaws.{tied}
use Rattle.tk_ledger.specs.SubjectWalk.{seen, shown_in}
use Rattle.tk_ledger.proofs.DotWalkLaws.{less, above_dot, placed, OnFacts, walk_all}
use Rattle.tk_ledger.proofs.KeyLaws.{same_tests}
use Rattle.tk_store.proofs.OneMoreLaws.{at_itself}
use Rattle.tk_ledger.proofs.KeySearchLaws.{among, in_filter, of_filter}

-- ---- orders of a dot and a tail

-- a key is at most another if both of its parts are at most the other's
lower : (o r : Ordering) → is_le o ≡ true → is_le r ≡ true → is_le (ordering_then o r) ≡ true
lower Less r h i = refl
lower Equal r h i = i
lower Greater r h i = absurd (true≢false (sym h))

-- a key isn't below another if both of the other's parts are at most its own
upper : (o r : Ordering) → is_le o ≡ true → is_le r ≡ true
    → not (is_lt (ordering_then (ordering_reverse o) (ordering_reverse r))) ≡ true
upper Less r h i = refl
upper Equal Less h i = refl
upper Equal Equal h i = refl
upper Equal Greater h i = absurd (true≢false (sym i))
upper Greater r h i = absurd (true≢false (sym h))

-- a key whose first part is less is less
lt_then : (o r : Ordering) → is_lt o ≡ true → is_lt (ordering_then o r) ≡ true
lt_then Less r h = refl
lt_then Equal r h = absurd (true≢false (sym h))
lt_then Greater r h = absurd (true≢false (sym h))

-- what is less than another is at most the other
lt_le : (o : Ordering) → is_lt o ≡ true → is_le o ≡ true
lt_le Less h = refl
lt_le Equal h = absurd (true≢false (sym h))
lt_le Greater h = absurd (true≢false (sym h))

-- what is past a key with the greatest tail has a greater dot
past : (o r : Ordering) → is_lt (ordering_then o (ordering_reverse r)) ≡ true → is_le r ≡ true
    → is_lt o ≡ true
past Less r h i = refl
past Equal Less h i = absurd (true≢false (sym h))
past Equal Equal h i = absurd (true≢false (sym h))
past Equal Greater h i = absurd (true≢false (sym i))
past Greater r h i = absurd (true≢false (sym h))

-- a key isn't above another if both of its parts are at most the other's
not_above : (o r : Ordering) → is_le o ≡ true → is_le r ≡ true
    → is_gt (ordering_then o r) ≡ false
not_above Less r h i = refl
not_above Equal Less h i = refl
not_above Equal Equal h i = refl
not_above Equal Greater h i = absurd (true≢false (sym i))
not_above Greater r h i = absurd (true≢false (sym h))

-- ---- the keys of one subject

-- the keys of one subject are in the order of their dots, then of their tails, and what is between
-- two of them is one
pub record IsSpan {K R : Type 0} (cmp : K → K → Ordering) (key : Dot → R → K) (place : K → Dot)
    (tail : K → R) (tail_cmp : R → R → Ordering) : Type 0 where
  pub order : (d e : Dot) (t u : R)
      → cmp (key d t) (key e u) ≡ ordering_then (dot_cmp d e) (tail_cmp t u)
  pub placed : (d : Dot) (t : R) → place (key d t) ≡ d
  pub between : (k : K) (d e : Dot) (t u : R) → is_le (cmp (key d t) k) ≡ true
      → not (is_lt (cmp (key e u) k)) ≡ true → k ≡ key (place k) (tail k)

module _ {K R : Type 0} (cmp : K → K → Ordering) (total : IsTotalOrder cmp)
    (tied_same : (a b : K) → eq_by_cmp cmp a b ≡ true → a ≡ b) (key : Dot → R → K)
    (place : K → Dot) (tail : K → R) (tail_cmp : R → R → Ordering)
    (tails : IsTotalOrder tail_cmp) (least greatest : R)
    (span : IsSpan cmp key place tail tail_cmp) where
  -- where the keys above a dot begin, or above none
  abbrev pub start : Option Dot → Bound K
  start None = Included (key least_dot least)
  start (Some d) = Excluded (key d greatest)

  -- the key is above the dot, or above none
  abbrev pub kept : Option Dot → K → Bool
  kept a k = range_contains cmp (start a) (Included (key greatest_dot greatest)) k

  -- the tail is in range
  abbrev pub IsTail : R → Type 0
  IsTail t = (is_le (tail_cmp least t) ≡ true) × (is_le (tail_cmp t greatest) ≡ true)

  -- a dot that is given is in range
  abbrev pub IsAfter : Option Dot → Type 0
  IsAfter None = Unit {0}
  IsAfter (Some d) = IsDot d

  -- the span above a dot runs forward
  pub span_forward : (a : Option Dot) → IsTail greatest → IsAfter a
      → IsForward (IsLeBy cmp) (IsLtBy cmp) (start a) (Included (key greatest_dot greatest))
  span_forward None g h = ap is_gt (span.order least_dot greatest_dot least greatest)
      ∙ not_above (dot_cmp least_dot greatest_dot) (tail_cmp least greatest) refl g.0
  span_forward (Some d) g h = ap is_gt (span.order d greatest_dot greatest greatest)
      ∙ not_above (dot_cmp d greatest_dot) (tail_cmp greatest greatest) (to_last d h) g.1

  -- the greatest key isn't below the key of a dot in range with a tail in range
  not_over : (d : Dot) (t : R) → IsDot d → is_le (tail_cmp t greatest) ≡ true
      → not (is_lt (cmp (key greatest_dot greatest) (key d t))) ≡ true
  not_over d t h i =
      ap (λ o. not (is_lt o)) (span.order greatest_dot d greatest t)
      ∙ ap (λ o. not (is_lt (ordering_then o (tail_cmp greatest t))))
      (dot_cmp_total.antisymm greatest_dot d)
      ∙ ap (λ r. not (is_lt (ordering_then (ordering_reverse (dot_cmp d greatest_dot)) r)))
      (tails.antisymm greatest t)
      ∙ upper (dot_cmp d greatest_dot) (tail_cmp t greatest) (to_last d h) i

  -- the key of a dot above the dot is in the span
  pub inside : (a : Option Dot) (d : Dot) (t : R) → IsDot d → IsTail t → above_dot a d ≡ true
      → kept a (key d t) ≡ true
  inside None d t h i _ = and_from _ _
      (ap is_le (span.order least_dot d least t)
      ∙ lower (dot_cmp least_dot d) (tail_cmp least t) (from_first d h) i.0)
      (not_over d t h i.1)
  inside (Some e) d t h i up = and_from _ _
      (ap is_lt (span.order e d greatest t)
      ∙ lt_then (dot_cmp e d) (tail_cmp greatest t) up)
      (not_over d t h i.1)

  -- a key in the span is one of the subject
  pub of_span : (a : Option Dot) (k : K) → kept a k ≡ true → k ≡ key (place k) (tail k)
  of_span None k h = let p = and_parts _ _ h in
      span.between k least_dot greatest_dot least greatest p.0 p.1
  of_span (Some e) k h = let p = and_parts _ _ h in
      span.between k e greatest_dot greatest greatest (lt_le (cmp (key e greatest) k) p.0) p.1

  -- a key in the span is above the dot
  is_past : (a : Option Dot) (k : K) → kept a k ≡ true → is_le (tail_cmp (tail k) greatest) ≡ true
      → above_dot a (place k) ≡ true
  is_past None k h i = refl
  is_past (Some e) k h i =
      past (dot_cmp e (place k)) (tail_cmp (tail k) greatest)
      (ap (λ r. is_lt (ordering_then (dot_cmp e (place k)) r))
      (sym (tails.antisymm greatest (tail k)))
      ∙ ap is_lt (sym (span.order e (place k) greatest (tail k)))
      ∙ ap (λ x. is_lt (cmp (key e greatest) x)) (sym (of_span (Some e) k h))
      ∙ (and_parts _ _ h).0) i

  -- ---- the entries of keys

  -- the keys of a list as entries at their dots
  abbrev entries : List K → List (Dot × K)
  entries xs = placed place xs

  -- an entry that is found at a dot is a key of the list with that dot
  found : (q : Dot) (xs : List K) → is_some (maps.find dot_cmp q (entries xs)) ≡ true
      → (k : K) × ((place k ≡ q) × (among cmp k xs ≡ true))
  found q [] h = absurd (true≢false (sym h))
  found q (x ∷ xs) h = elim (cases_Bool (eq_by_cmp dot_cmp q (place x))) [
    | inl here ↦ (
      x,
      (
        sym (tied q (place x) here),
        or_left (is_at (cmp x) x) (among cmp x xs) (ap is_eq (tied_itself total x)),
      ),
    )
    | inr more ↦
        let r : (k : K) × ((place k ≡ q) × (among cmp k xs ≡ true)) =
        found q xs (sym (ap is_some (cond-false (eq_by_cmp dot_cmp q (place x)) (Some x)
        (maps.find dot_cmp q (entries xs)) more)) ∙ h) in
        (r.0, (r.1.0, or_right (is_at (cmp r.0) x) (among cmp r.0 xs) r.1.1))
  ]

  -- an entry is found at the dot of each key of the list
  there : (k : K) (xs : List K) → among cmp k xs ≡ true
      → is_some (maps.find dot_cmp (place k) (entries xs)) ≡ true
  there k [] h = absurd (true≢false (sym h))
  there k (x ∷ xs) h = elim (cases_Bool (eq_by_cmp dot_cmp (place k) (place x))) [
    | inl here ↦ ap is_some (cond-true (eq_by_cmp dot_cmp (place k) (place x)) (Some x)
        (maps.find dot_cmp (place k) (entries xs)) here)
    | inr more ↦ elim (or_cases (is_at (cmp k) x) (among cmp k xs) h) [
      | inl tie ↦ absurd
          (true≢false
          (sym (ap (λ (y : K). eq_by_cmp dot_cmp (place k) (place y)) (sym (tied_same k x tie))
          ∙ at_itself (place k))
          ∙ more))
      | inr later ↦
          ap is_some (cond-false (eq_by_cmp dot_cmp (place k) (place x)) (Some x)
          (maps.find dot_cmp (place k) (entries xs)) more)
          ∙ there k xs later
    ]
  ]

  -- ---- a walk

  -- the keys of the subject in a list are in range, and their dots determine their tails
  pub record AreKeys (ks : List K) : Type 0 where
    pub ranged : (d : Dot) (t : R) → among cmp (key d t) ks ≡ true → IsDot d × IsTail t
    pub single : (d : Dot) (t u : R) → among cmp (key d t) ks ≡ true
        → among cmp (key d u) ks ≡ true → t ≡ u

  module _ (ks : List K) (are : AreKeys ks) (a : Option Dot) where
    -- a key of the list that is in the span, by its dot and tail
    as_key : (k : K) → kept a k ≡ true → among cmp k ks ≡ true
        → among cmp (key (place k) (tail k)) ks ≡ true
    as_key k h at = ap (λ (x : K). among cmp x ks) (sym (of_span a k h)) ∙ at

    -- of two keys in the span, the lower one has the lower dot
    rises : (x y : K) → among cmp x ks ≡ true → among cmp y ks ≡ true → kept a x ≡ true
        → kept a y ≡ true → cmp x y ≡ Less → dot_cmp (place x) (place y) ≡ Less
    rises x y at also h i below = by_order (dot_cmp (place x) (place y)) refl
      where
        order : cmp x y ≡ ordering_then (dot_cmp (place x) (place y)) (tail_cmp (tail x) (tail y))
        order =
            ap (λ (z : K). cmp z y) (of_span a x h)
            ∙ ap (λ (z : K). cmp (key (place x) (tail x)) z) (of_span a y i)
            ∙ span.order (place x) (place y) (tail x) (tail y)

        one : place x ≡ place y → x ≡ y
        one same =
            let moved : among cmp (key (place x) (tail y)) ks ≡ true =
            ap (λ (d : Dot). among cmp (key d (tail y)) ks) same ∙ as_key y i also in
            of_span a x h
            ∙ ap (key (place x)) (are.single (place x) (tail x) (tail y) (as_key x h at) moved)
            ∙ ap (λ (d : Dot). key d (tail y)) same ∙ sym (of_span a y i)

        by_order : (o : Ordering) → dot_cmp (place x) (place y) ≡ o
            → dot_cmp (place x) (place y) ≡ Less
        by_order Less is = is
        by_order Equal is =
            let clash : Equal ≡ Less = sym (tied_itself total x)
            ∙ ap (cmp x) (one (tied (place x) (place y) (ap is_eq is))) ∙ below in
            absurd (cc)
        by_order Greater is =
            let clash : Greater ≡ Less =
            sym (order ∙ ap (λ o. ordering_then o (tail_cmp (tail x) (tail y))) is) ∙ below in
            absurd (cc)

    -- each key of the list is among the keys
    abbrev Within : List K → Type 0
    Within xs = (k : K) → among cmp k xs ≡ true → among cmp k ks ≡ true

    -- if each key of a list is among the keys, so is each key behind the first
    within_rest : (x : K) (xs : List K) → Within (x ∷ xs) → Within xs
    within_rest x xs w k h = w k (or_right (is_at (cmp k) x) (among cmp k xs) h)

    -- the first key of a list within the keys is among them
    within_here : (x : K) (xs : List K) → Within (x ∷ xs) → among cmp x ks ≡ true
    within_here x xs w =
        w x (or_left (is_at (cmp x) x) (among cmp x xs) (ap is_eq (tied_itself total x)))

    -- a key below each key of a list has a dot below those of the entries in the span
    low : (x : K) → among cmp x ks ≡ true → kept a x ≡ true → (xs : List K) → Within xs
        → AllByRecursion (λ y. cmp x y ≡ Less) xs
        → T (below_all dot_cmp (place x) (entries (filter (kept a) xs)))
    low x at h [] w all = tt
    low x at h (y ∷ ys) w all = elim (cases_Bool (kept a y)) [
      | inl here ↦ subst (λ (zs : List K). T (below_all dot_cmp (place x) (entries zs)))
          (sym (cond-true (kept a y) (y ∷ filter (kept a) ys) (filter (kept a) ys) here))
          (joined _ _ (less _ (rises x y at (within_here y ys w) h here all.0))
          (low x at h ys (within_rest y ys w) all.1))
      | inr left ↦ subst (λ (zs : List K). T (below_all dot_cmp (place x) (entries zs)))
          (sym (cond-false (kept a y) (y ∷ filter (kept a) ys) (filter (kept a) ys) left))
          (low x at h ys (within_rest y ys w) all.1)
    ]

    -- the entries in the span of a sorted list of keys are sorted by their dots
    in_order : (xs : List K) → Within xs → IsStrictlySortedBy cmp xs
        → T (maps.is_sorted dot_cmp (entries (filter (kept a) xs)))
    unfolding IsStrictlySortedBy
    in_order [] w sorted = tt
    in_order (x ∷ xs) w sorted = elim (cases_Bool (kept a x)) [
      | inl here ↦ subst (λ (zs : List K). T (maps.is_sorted dot_cmp (entries zs)))
          (sym (cond-true (kept a x) (x ∷ filter (kept a) xs) (filter (kept a) xs) here))
          (joined _ _ (low x (within_here x xs w) here xs (within_rest x xs w) sorted.0)
          (in_order xs (within_rest x xs w) sorted.1))
      | inr left ↦ subst (λ (zs : List K). T (maps.is_sorted dot_cmp (entries zs)))
          (sym (cond-false (kept a x) (x ∷ filter (kept a) xs) (filter (kept a) xs) left))
          (in_order xs (within_rest x xs w) sorted.1)
    ]

    -- the span has a key of a dot exactly if one is listed and above
    is_found : (q : Dot) (t : R) → among cmp (key q t) ks ≡ true
        → is_some (maps.find dot_cmp q (entries (filter (kept a) ks))) ≡ above_dot a q
    is_found q t at = same_tests
        (is_some (maps.find dot_cmp q (entries (filter (kept a) ks)))) (above_dot a q) down up
      where
        down : is_some (maps.find dot_cmp q (entries (filter (kept a) ks))) ≡ true
            → above_dot a q ≡ true
        down h =
            let r : (k : K) × ((place k ≡ q) × (among cmp k (filter (kept a) ks) ≡ true)) =
            found q (filter (kept a) ks) h in
            let p : (among cmp r.0 ks ≡ true) × (kept a r.0 ≡ true) =
            of_filter cmp tied_same (kept a) r.0 ks r.1.1 in
            ap (above_dot a) (sym r.1.0)
            ∙ is_past a r.0 p.1
            (are.ranged (place r.0) (tail r.0) (as_key r.0 p.1 p.0)).1.1

        up : above_dot a q ≡ true
            → is_some (maps.find dot_cmp q (entries (filter (kept a) ks))) ≡ true
        up h =
            let p = are.ranged q t at in
            ap (λ (d : Dot). is_some (maps.find dot_cmp d (entries (filter (kept a) ks))))
            (sym (span.placed q t))
            ∙ there (key q t) (filter (kept a) ks)
            (in_filter cmp tied_same (kept a) (key q t) ks at (inside a q t p.0 p.1 h))

    -- what a view shows at the keys of the span is what it shows above the dot, if it shows nothing
    -- but at keys
    pub walk_keys : {X : Type 0} (F : FactSet) (view : Dot → Option X) → OnFacts F view
        → ((q : Dot) (x : X) → view q ≡ Some x → (t : R) × (among cmp (key q t) ks ≡ true))
        → IsStrictlySortedBy cmp ks
        → filter_map (seen view) (entries (filter (kept a) ks)) ≡ above (shown_in F view) a
    walk_keys {X} F view on listed sorted =
        walk_all F view on a (entries (filter (kept a) ks)) (in_order ks (λ k h. h) sorted)
        (λ q. covers q (view q) refl)
      where
        none : (b : Bool) (v : Option X) → v ≡ None → cond b v None ≡ v
        none true v h = refl
        none false v h = sym h

        covers : (q : Dot) (o : Option X) → view q ≡ o
            → cond (is_some (maps.find dot_cmp q (entries (filter (kept a) ks)))) (view q) None
            ≡ cond (above_dot a q) (view q) None
        covers q None h =
            none (is_some (maps.find dot_cmp q (entries (filter (kept a) ks)))) (view q) h
            ∙ sym (none (above_dot a q) (view q) h)
        covers q (Some x) h = let r = listed q x h in
            ap (λ b. cond b (view q) None) (is_found q r.0 r.1)
