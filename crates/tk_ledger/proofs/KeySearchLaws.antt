-- The first key of a sorted list that passes a test, among the keys that another test keeps. Key
-- results:
--   among                       a list has the key
--   some_key, any_key           a list with a key has a first one, and the other way round
--   in_filter, of_filter        the keys that a test keeps
--   found_passes, none_passes   a key that is found is in the list and passes both tests; if no key
--                               is found, no key of the list passes both
--   first_least                 no key that passes is below the first that does
use Rattle.std.proofs.Common.{◌≡◌, ◌≢◌, ◌⊎◌, inl, inr, Bool, true, false, ◌&&◌, ◌||◌, List, [], ◌∷◌}
use Rattle.std.proofs.Common.{filter, Some, None, refl, sym, ap, subst, ◌∙◌}
use Rattle.std.proofs.lemmas.Bool.{true≢false, cases_Bool, cond-true, cond-false, or_cases, or_left}
use Rattle.std.proofs.lemmas.Bool.{or_right, and_parts, and_from}
use Rattle.std.proofs.lemmas.Cmp.{tied_itself}
use Rattle.std.specs.BTreeMap.{is_at}
use Rattle.std.specs.Cmp.{IsTotalOrder}
use Rattle.std.specs.List.{AllByRecursion, list_any, find}
use Rattle.std.specs.List.Sorted.{IsStrictlySortedBy}
use Rattle.std.specs.Ordering.{eq_by_cmp, ordering_reverse, is_eq}
use Rattle.std.specs.declared.cmp.Ordering.{Ordering}
use Rattle.std.specs.declared.cmp.Ordering.TheVariants.{Less, Equal, Greater}
use Rattle.tk_store.proofs.PutLaws.{some_injective, none_is_not_some}

-- Greater is not Less
pub greater_not_less : ¬ (Greater ≡ Less)
greater_not_less h = cc

-- Equal is not Less
pub equal_not_less : ¬ (Equal ≡ Less)
equal_not_less h = cc

-- ---- whether there is a key

-- a test that each key passes
abbrev pub every : {K : Type 0} → K → Bool
every e = true

-- a list with a key has a first key
pub some_key : {K : Type 0} (es : List K) → list_any every es ≡ true
    → (e : K) × (find every es ≡ Some e)
some_key [] h = absurd (true≢false (sym h))
some_key (e ∷ es) h = (e, refl)

-- a list with a first key has a key
pub any_key : {K : Type 0} (es : List K) → ¬ (find every es ≡ None) → list_any every es ≡ true
any_key [] h = absurd (h refl)
any_key (e ∷ es) h = refl

-- ---- the first key that passes

module _ {K : Type 0} (cmp : K → K → Ordering) where
  -- the list has the key
  abbrev pub among : K → List K → Bool
  among k ks = list_any (is_at (cmp k)) ks

module _ {K : Type 0} (cmp : K → K → Ordering)
    (tied_same : (a b : K) → eq_by_cmp cmp a b ≡ true → a ≡ b) (c : K → Bool) where
  -- a key that is kept is among the keys that are kept, and the other way round
  pub in_filter : (k : K) (ks : List K) → among cmp k ks ≡ true → c k ≡ true
      → among cmp k (filter c ks) ≡ true
  in_filter k [] at kept = absurd (true≢false (sym at))
  in_filter k (x ∷ xs) at kept = elim (or_cases (is_at (cmp k) x) (among cmp k xs) at) [
    | inl tie ↦
        let here : c x ≡ true = ap c (sym (tied_same k x tie)) ∙ kept in
        ap (among cmp k) (cond-true (c x) (x ∷ filter c xs) (filter c xs) here)
        ∙ or_left (is_at (cmp k) x) (among cmp k (filter c xs)) tie
    | inr more ↦ elim (cases_Bool (c x)) [
      | inl here ↦ ap (among cmp k) (cond-true (c x) (x ∷ filter c xs) (filter c xs) here)
          ∙ or_right (is_at (cmp k) x) (among cmp k (filter c xs)) (in_filter k xs more kept)
      | inr left ↦ ap (among cmp k) (cond-false (c x) (x ∷ filter c xs) (filter c xs) left)
          ∙ in_filter k xs more kept
    ]
  ]

  -- a key that the filter keeps is in the list, and passes its test
  pub of_filter : (k : K) (ks : List K) → among cmp k (filter c ks) ≡ true
      → (among cmp k ks ≡ true) × (c k ≡ true)
  of_filter k [] h = absurd (true≢false (sym h))
  of_filter k (x ∷ xs) h = elim (cases_Bool (c x)) [
    | inl here ↦ elim (or_cases (is_at (cmp k) x) (among cmp k (filter c xs))
        (sym (ap (among cmp k) (cond-true (c x) (x ∷ filter c xs) (filter c xs) here)) ∙ h)) [
          | inl tie ↦ (
            or_left (is_at (cmp k) x) (among cmp k xs) tie,
            ap c (tied_same k x tie) ∙ here,
          )
          | inr more ↦ let r : (among cmp k xs ≡ true) × (c k ≡ true) = of_filter k xs more in
              (or_right (is_at (cmp k) x) (among cmp k xs) r.0, r.1)
        ]
    | inr left ↦ let r : (among cmp k xs ≡ true) × (c k ≡ true) = of_filter k xs
        (sym (ap (among cmp k) (cond-false (c x) (x ∷ filter c xs) (filter c xs) left)) ∙ h) in
        (or_right (is_at (cmp k) x) (among cmp k xs) r.0, r.1)
  ]

module _ {K : Type 0} (cmp : K → K → Ordering) (total : IsTotalOrder cmp)
    (tied_same : (a b : K) → eq_by_cmp cmp a b ≡ true → a ≡ b) (p c : K → Bool) where
  -- a key of a list is in the list with one more key in front
  later : (e x : K) (xs : List K) → among cmp e xs ≡ true → among cmp e (x ∷ xs) ≡ true
  later e x xs h = or_more (is_at (cmp e) x) (among cmp e xs) h
    where
      or_more : (a b : Bool) → b ≡ true → (a || b) ≡ true
      or_more true b h = refl
      or_more false b h = h

  -- the first key that is found passes both tests, and is in the list
  pub found_passes : (ks : List K) (e : K) → find p (filter c ks) ≡ Some e
      → (p e ≡ true) × (c e ≡ true) × (among cmp e ks ≡ true)
  found_passes [] e h = absurd (none_is_not_some e h)
  found_passes (x ∷ xs) e h = elim (cases_Bool (c x)) [
    | inl kept ↦ elim (cases_Bool (p x)) [
      | inl here ↦
          let same : x ≡ e = some_injective x e
          (sym (cond-true (p x) (Some x) (find p (filter c xs)) here)
          ∙ sym (ap (find p) (cond-true (c x) (x ∷ filter c xs) (filter c xs) kept)) ∙ h) in
          subst (λ (y : K). (p y ≡ true) × (c y ≡ true) × (among cmp y (x ∷ xs) ≡ true)) same
          (here, kept, or_left (is_at (cmp x) x) (among cmp x xs) (ap is_eq (tied_itself total x)))
      | inr fails ↦
          let more = found_passes xs e
          (sym (cond-false (p x) (Some x) (find p (filter c xs)) fails)
          ∙ sym (ap (find p) (cond-true (c x) (x ∷ filter c xs) (filter c xs) kept)) ∙ h) in
          (more.0, more.1, later e x xs more.2)
    ]
    | inr left ↦
        let more = found_passes xs e
        (sym (ap (find p) (cond-false (c x) (x ∷ filter c xs) (filter c xs) left)) ∙ h) in
        (more.0, more.1, later e x xs more.2)
  ]

  -- if no key is found, no key of the list passes both tests
  pub none_passes : (ks : List K) → find p (filter c ks) ≡ None → (k : K) → among cmp k ks ≡ true
      → c k ≡ true → p k ≡ true → ⊥
  none_passes [] h k at kept passes = true≢false (sym at)
  none_passes (x ∷ xs) h k at kept passes = elim (or_cases (is_at (cmp k) x) (among cmp k xs) at) [
    | inl tie ↦
        let same : k ≡ x = tied_same k x tie in
        none_is_not_some x
        (sym h ∙ ap (find p)
        (cond-true (c x) (x ∷ filter c xs) (filter c xs) (sym (ap c same) ∙ kept))
        ∙ cond-true (p x) (Some x) (find p (filter c xs)) (sym (ap p same) ∙ passes))
    | inr more ↦ none_passes xs (rest (cases_Bool (c x))) k more kept passes
  ]
    where
      rest : (c x ≡ true) ⊎ (c x ≡ false) → find p (filter c xs) ≡ None
      rest (inl kept) = elim (cases_Bool (p x)) [
        | inl here ↦ absurd
            (none_is_not_some x
            (sym h ∙ ap (find p) (cond-true (c x) (x ∷ filter c xs) (filter c xs) kept)
            ∙ cond-true (p x) (Some x) (find p (filter c xs)) here))
        | inr fails ↦ sym (cond-false (p x) (Some x) (find p (filter c xs)) fails)
            ∙ sym (ap (find p) (cond-true (c x) (x ∷ filter c xs) (filter c xs) kept)) ∙ h
      ]
      rest (inr left) =
          sym (ap (find p) (cond-false (c x) (x ∷ filter c xs) (filter c xs) left)) ∙ h

  -- a key below each key of a list is below each key that the list has
  above_key : (x : K) (xs : List K) → AllByRecursion (λ y. cmp x y ≡ Less) xs → (k : K)
      → among cmp k xs ≡ true → cmp x k ≡ Less
  above_key x [] low k at = absurd (true≢false (sym at))
  above_key x (y ∷ ys) low k at = elim (or_cases (is_at (cmp k) y) (among cmp k ys) at) [
    | inl tie ↦ ap (cmp x) (tied_same k y tie) ∙ low.0
    | inr more ↦ above_key x ys low.1 k more
  ]

  -- no key that passes is below the first that does
  pub first_least : (ks : List K) → IsStrictlySortedBy cmp ks → (e : K)
      → find p (filter c ks) ≡ Some e → (k : K) → among cmp k ks ≡ true → c k ≡ true → p k ≡ true
      → cmp k e ≢ Less
  unfolding IsStrictlySortedBy
  first_least [] sorted e h k at kept passes = λ _. true≢false (sym at)
  first_least (x ∷ xs) sorted e h k at kept passes = elim (cases_Bool (c x && p x)) [
    | inl here ↦ elim (or_cases (is_at (cmp k) x) (among cmp k xs) at) [
      | inl tie ↦ λ below. equal_not_less
          (sym (tied_itself total x) ∙ ap (λ (y : K). cmp y x) (sym (tied_same k x tie))
          ∙ ap (cmp k) (is_first here) ∙ below)
      | inr more ↦ λ below. greater_not_less
          (sym (total.antisymm k x ∙ ap ordering_reverse (above_key x xs sorted.0 k more))
          ∙ ap (cmp k) (is_first here) ∙ below)
    ]
    | inr fails ↦ elim (or_cases (is_at (cmp k) x) (among cmp k xs) at) [
      | inl tie ↦ absurd
          (true≢false
          (sym (ap (λ (y : K). c y && p y) (sym (tied_same k x tie))
          ∙ and_from (c k) (p k) kept passes)
          ∙ fails))
      | inr more ↦ first_least xs sorted.1 e (rest fails) k more kept passes
    ]
  ]
    where
      is_first : (c x && p x) ≡ true → x ≡ e
      is_first here =
          let both = and_parts (c x) (p x) here in
          some_injective x e
          (sym (cond-true (p x) (Some x) (find p (filter c xs)) both.1)
          ∙ sym (ap (find p) (cond-true (c x) (x ∷ filter c xs) (filter c xs) both.0)) ∙ h)

      rest : (c x && p x) ≡ false → find p (filter c xs) ≡ Some e
      rest fails = elim (cases_Bool (c x)) [
        | inl kept ↦ sym (cond-false (p x) (Some x) (find p (filter c xs))
            (sym (ap (λ b. b && p x) kept) ∙ fails))
            ∙ sym (ap (find p) (cond-true (c x) (x ∷ filter c xs) (filter c xs) kept)) ∙ h
        | inr left ↦ sym (ap (find p) (cond-false (c x) (x ∷ filter c xs) (filter c xs) left)) ∙ h
      ]
