-- Tokens in byte order, without duplicates.
--   in_order_rises                      `in_order` is in byte order
--   All-in_order, All-from_in_order     `in_order` has the tokens of the list
--   set_is                              no other list has both properties
use Rattle.std.proofs.Common.{◌≡◌, ℕ, zero, suc, ◌<◌, true, false, List, [], ◌∷◌, length, All}
use Rattle.std.proofs.Common.{Contains, ◌⊎◌, inl, inr, refl, sym, ap, ◌∙◌, subst, arith, bytes_eq}
use Rattle.std.proofs.Common.{slice_index_or}
use Rattle.std.specs.declared.cmp.Ordering.{Ordering}
use Rattle.std.specs.declared.cmp.Ordering.TheVariants.{Less, Equal, Greater}
use Rattle.std.specs.Cmp.Lexicographic.{nat_list_cmp_total, slice_cmp, texts_ties}
use Rattle.std.specs.List.{AllByRecursion}
use Rattle.std.specs.List.Sorted.{IsStrictlySortedBy}
use Rattle.std.specs.Ordering.{is_eq, is_lt, nat_cmp, ordering_reverse}
use Rattle.std.proofs.lemmas.Bool.{cond_both}
use Rattle.std.proofs.lemmas.Cmp.{tied_itself}
use Rattle.std.proofs.lemmas.List.Elements.{All-contains, All-contains_itself, All-from_recursion}
use Rattle.std.proofs.lemmas.List.Elements.{All-tail, All-weaker, recursion_from_All}
use Rattle.std.proofs.lemmas.Slice.Eq.{bytes_eq-Decides}
use Rattle.tk_scope.specs.Scope.{in_order, with_token}

-- how two tokens compare in byte order
abbrev pub byte_cmp : List ℕ → List ℕ → Ordering
byte_cmp = slice_cmp nat_cmp

-- each token is below those after it
abbrev pub Rises : List (List ℕ) → Type 0
Rises = IsStrictlySortedBy byte_cmp

-- of two tokens that are not equal and not in this order, the second is below the first
after_by_order : (a b : List ℕ) → bytes_eq a b ≡ false → is_lt (byte_cmp a b) ≡ false
    → byte_cmp b a ≡ Less
after_by_order a b other not_below =
    nat_list_cmp_total.antisymm b a
    ∙ ap ordering_reverse
    (elim (byte_cmp a b) as (λ o. is_eq o ≡ false → is_lt o ≡ false → o ≡ Greater) [
      | Less ↦ λ _ h. absurd cc
      | Equal ↦ λ h _. absurd cc
      | Greater ↦ λ _ _. refl
    ] (sym (texts_ties a b) ∙ other) not_below)

-- a token for which `is_lt` holds is below the other
below_by_test : (a b : List ℕ) → is_lt (byte_cmp a b) ≡ true → byte_cmp a b ≡ Less
below_by_test a b h =
    elim (byte_cmp a b) as (λ o. is_lt o ≡ true → o ≡ Less) [
      | Less ↦ λ _. refl
      | Equal ↦ λ e. absurd cc
      | Greater ↦ λ e. absurd cc
    ] h

-- P holds of each token of `with_token t us`, if P holds of t and of each of us
all_with_token : (P : List ℕ → Type 0) (t : List ℕ) (us : List (List ℕ)) → P t → AllByRecursion P us
    → AllByRecursion P (with_token t us)
all_with_token P t [] first others = (first, tt)
all_with_token P t (u ∷ us) first others =
    cond_both (bytes_eq t u) (u ∷ us) _ (AllByRecursion P)
    (λ _. others)
    (λ _. cond_both (is_lt (byte_cmp t u)) (t ∷ u ∷ us) (u ∷ with_token t us) (AllByRecursion P)
    (λ _. (first, others)) (λ _. (others.0, all_with_token P t us first others.1)))

-- P holds of t and of each of us, if P holds of each token of `with_token t us`
all_from_with_token : (P : List ℕ → Type 0) (t : List ℕ) (us : List (List ℕ))
    → AllByRecursion P (with_token t us) → P t × AllByRecursion P us
all_from_with_token P t [] all = (all.0, tt)
all_from_with_token P t (u ∷ us) all =
    cond_both (bytes_eq t u) (u ∷ us) _
    (λ ts. AllByRecursion P ts → P t × AllByRecursion P (u ∷ us))
    (λ same h. (subst P (sym ((bytes_eq-Decides t u).0 same)) h.0, h))
    (λ _. cond_both (is_lt (byte_cmp t u)) (t ∷ u ∷ us) (u ∷ with_token t us)
    (λ ts. AllByRecursion P ts → P t × AllByRecursion P (u ∷ us))
    (λ _ h. (h.0, h.1))
    (λ _ h. let rest = all_from_with_token P t us h.1 in (rest.0, (h.0, rest.1))))
    all

-- P holds of each token in order, if P holds of each token
pub All-in_order : (P : List ℕ → Type 0) (ts : List (List ℕ)) → AllByRecursion P ts
    → AllByRecursion P (in_order ts)
All-in_order P [] all = tt
All-in_order P (t ∷ ts) all = all_with_token P t (in_order ts) all.0 (All-in_order P ts all.1)

-- P holds of each token, if P holds of each token in order
pub All-from_in_order : (P : List ℕ → Type 0) (ts : List (List ℕ)) → AllByRecursion P (in_order ts)
    → AllByRecursion P ts
All-from_in_order P [] all = tt
All-from_in_order P (t ∷ ts) all = let parts = all_from_with_token P t (in_order ts) all in
    (parts.0, All-from_in_order P ts parts.1)

-- a token below the first of a list that rises is below all of the list
below_all : (t u : List ℕ) (us : List (List ℕ)) → byte_cmp t u ≡ Less
    → AllByRecursion (λ x. byte_cmp u x ≡ Less) us → AllByRecursion (λ x. byte_cmp t x ≡ Less) us
below_all t u [] lt all = tt
below_all t u (x ∷ us) lt all = (nat_list_cmp_total.trans t u x lt all.0, below_all t u us lt all.1)

-- a list that rises still rises with one more token in its place
rises_with_token : (t : List ℕ) (us : List (List ℕ)) → Rises us → Rises (with_token t us)
unfolding IsStrictlySortedBy
rises_with_token t [] up = (tt, tt)
rises_with_token t (u ∷ us) up =
    cond_both (bytes_eq t u) (u ∷ us) _ Rises
    (λ _. up)
    (λ other. cond_both (is_lt (byte_cmp t u)) (t ∷ u ∷ us) (u ∷ with_token t us) Rises
    (λ below. let lt = below_by_test t u below in ((lt, below_all t u us lt up.0), up))
    (λ not_below. (
      all_with_token (λ x. byte_cmp u x ≡ Less) t us (after_by_order t u other not_below) up.0,
      rises_with_token t us up.1,
    )))

-- `in_order` rises
pub in_order_rises : (ts : List (List ℕ)) → Rises (in_order ts)
unfolding IsStrictlySortedBy
in_order_rises [] = tt
in_order_rises (t ∷ ts) = rises_with_token t (in_order ts) (in_order_rises ts)

-- an element of a list is the first or one of the others
in_head : (y : List ℕ) (ys : List (List ℕ)) (z : List ℕ) → Contains (y ∷ ys) z
    → (y ≡ z) ⊎ Contains ys z
in_head y ys z h =
    elim h.0 as
    (λ k. (k < length (y ∷ ys)) × (slice_index_or (y ∷ ys) k z ≡ z) → (y ≡ z) ⊎ Contains ys z) [
      | zero ↦ λ p. inl p.1
      | suc k ↦ λ p. inr (k, omega arith, p.1)
    ] (h.1, h.2)

-- the first elements of two lists that rise, each in the other list, are equal
first_is_first : (x y : List ℕ) (xs ys : List (List ℕ))
    → AllByRecursion (λ z. byte_cmp x z ≡ Less) xs → AllByRecursion (λ z. byte_cmp y z ≡ Less) ys
    → Contains (y ∷ ys) x → Contains (x ∷ xs) y → x ≡ y
first_is_first x y xs ys above_x above_y x_in y_in =
    elim (in_head y ys x x_in) [
      | inl same ↦ sym same
      | inr x_later ↦ elim (in_head x xs y y_in) [
        | inl same ↦ same
        | inr y_later ↦
            let x_first : byte_cmp x y ≡ Less = All-contains (λ z. byte_cmp x z ≡ Less) xs y
            (All-from_recursion _ xs above_x) y_later in
            let y_first : byte_cmp y x ≡ Less = All-contains (λ z. byte_cmp y z ≡ Less) ys x
            (All-from_recursion _ ys above_y) x_later in
            let turned : byte_cmp x y ≡ Greater =
            nat_list_cmp_total.antisymm x y ∙ ap ordering_reverse y_first in
            absurd cc
      ]
    ]

-- an element above the first is one of the others
in_rest : (y : List ℕ) (ys : List (List ℕ)) (z : List ℕ) → byte_cmp y z ≡ Less → Contains (y ∷ ys) z
    → Contains ys z
in_rest y ys z above h =
    elim (in_head y ys z h) [
      | inl same ↦
          let tied : byte_cmp y z ≡ Equal =
          subst (λ (t : List ℕ). byte_cmp y t ≡ Equal) same (tied_itself nat_list_cmp_total y) in
          absurd cc
      | inr later ↦ later
    ]

-- two lists that rise and have the same tokens are equal
one_list : (xs ys : List (List ℕ)) → Rises xs → Rises ys → All (Contains ys) xs
    → All (Contains xs) ys → xs ≡ ys
unfolding IsStrictlySortedBy
one_list [] [] up_x up_y x_in y_in = refl
one_list [] (y ∷ ys) up_x up_y x_in y_in = let h = y_in 0 y (omega arith) in
    absurd (omega (arith, h.1))
one_list (x ∷ xs) [] up_x up_y x_in y_in = let h = x_in 0 x (omega arith) in
    absurd (omega (arith, h.1))
one_list (x ∷ xs) (y ∷ ys) up_x up_y x_in y_in =
    let same : x ≡ y =
    first_is_first x y xs ys up_x.0 up_y.0 (x_in 0 x (omega arith)) (y_in 0 y (omega arith)) in
    let above_x = All-from_recursion (λ z. byte_cmp x z ≡ Less) xs up_x.0 in
    let above_y = All-from_recursion (λ z. byte_cmp y z ≡ Less) ys up_y.0 in
    let x_rest : All (Contains ys) xs = λ k d lt.
    in_rest y ys _
    (subst (λ (t : List ℕ). byte_cmp t (slice_index_or xs k d) ≡ Less) same (above_x k d lt))
    (All-tail (Contains (y ∷ ys)) x xs x_in k d lt) in
    let y_rest : All (Contains xs) ys = λ k d lt.
    in_rest x xs _
    (subst (λ (t : List ℕ). byte_cmp t (slice_index_or ys k d) ≡ Less) (sym same) (above_y k d lt))
    (All-tail (Contains (x ∷ xs)) y ys y_in k d lt) in
    let rest : xs ≡ ys = one_list xs ys up_x.1 up_y.1 x_rest y_rest in
    cc

-- `in_order` has each token of the list
pub All-in_order_contains : (ts : List (List ℕ)) → All (Contains (in_order ts)) ts
All-in_order_contains ts = All-from_recursion _ ts
    (All-from_in_order (Contains (in_order ts)) ts
    (recursion_from_All _ _ (All-contains_itself (in_order ts))))

-- `in_order` has no token but those of the list
pub All-contains_in_order : (ts : List (List ℕ)) → All (Contains ts) (in_order ts)
All-contains_in_order ts = All-from_recursion _ (in_order ts)
    (All-in_order (Contains ts) ts (recursion_from_All _ _ (All-contains_itself ts)))

-- a list that rises and has the same tokens is `in_order` of them
pub set_is : (ts us : List (List ℕ)) → Rises us → All (Contains us) ts → All (Contains ts) us
    → us ≡ in_order ts
set_is ts us up held only =
    one_list us (in_order ts) up (in_order_rises ts)
    (All-weaker (Contains ts) (Contains (in_order ts))
    (λ t h. All-contains (Contains (in_order ts)) ts t (All-in_order_contains ts) h) us only)
    (All-from_recursion _ (in_order ts)
    (All-in_order (Contains us) ts (recursion_from_All _ ts held)))

-- `in_order` leaves a list in order unchanged
pub in_order-in_order : (ts : List (List ℕ)) → in_order (in_order ts) ≡ in_order ts
in_order-in_order ts = sym (set_is (in_order ts) (in_order ts) (in_order_rises ts)
    (All-contains_itself (in_order ts)) (All-contains_itself (in_order ts)))

-- two lists with the same tokens have one `in_order`
pub in_order_same : (ts us : List (List ℕ)) → All (Contains us) ts → All (Contains ts) us
    → in_order ts ≡ in_order us
in_order_same ts us t_in u_in =
    set_is us (in_order ts) (in_order_rises ts)
    (All-weaker (Contains ts) (Contains (in_order ts))
    (λ t h. All-contains (Contains (in_order ts)) ts t (All-in_order_contains ts) h) us u_in)
    (All-weaker (Contains ts) (Contains us) (λ t h. All-contains (Contains us) ts t t_in h)
    (in_order ts) (All-contains_in_order ts))
