-- The entries of children. Key results:
--   is_child-true, is_child-apart        entries tie exactly if token and child are equal
--   span_is                              the span of a token
--   users-has, has-users                 the span has exactly the children that use the token
--   users-distinct                       each once
--   first_listed, none_listed            the first of them
use Rattle.std.proofs.Common.{◌≡◌, ◌≢◌, ◌⊎◌, inl, inr, Bool, true, false, cond, not, List, []}
use Rattle.std.proofs.Common.{◌∷◌, Option, Some, None, length, take, map, filter, refl, sym, ap}
use Rattle.std.proofs.Common.{subst, ◌∙◌}
use Rattle.std.proofs.lemmas.Bool.{true≢false, cases_Bool, cond-true, cond-false, or_cases, or_left}
use Rattle.std.proofs.lemmas.Bool.{or_right, and_parts, and_from, false_from_ne_true}
use Rattle.std.proofs.lemmas.Cmp.{on_total, then_total, tied_itself}
use Rattle.std.proofs.lemmas.Map.Lookups.{exact_unsigned}
use Rattle.std.proofs.lemmas.Map.Keys.{IsDistinct-cons}
use Rattle.std.specs.BTreeMap.{is_at}
use Rattle.std.specs.BTreeMap.Range.{range_contains}
use Rattle.std.specs.BTreeSet.{BTreeSet, IsOrdered, keys_between}
use Rattle.std.specs.Cmp.{IsTotalOrder, nat_cmp_total}
use Rattle.std.specs.List.{IsDistinct, AllByRecursion, list_any}
use Rattle.std.specs.List.Sorted.{IsStrictlySortedBy}
use Rattle.std.specs.Ordering.{nat_cmp, eq_by_cmp, ordering_then, is_eq, is_lt, is_le}
use Rattle.std.specs.declared.cmp.Ordering.TheVariants.{Less, Equal}
use Rattle.std.specs.declared.ops.Bound.TheVariants.{Included}
use Rattle.tk_handle.specs.declared.dot.Dot.{Dot}
use Rattle.tk_handle.specs.declared.kind.Kind.TheVariants as kind
use Rattle.tk_handle.specs.declared.token_id.TokenId.{TokenId}
use Rattle.tk_handle.specs.Dot.{IsDot, dot_cmp, dot_cmp_total, least_dot, greatest_dot}
use Rattle.tk_handle.specs.Kind.{kind_number}
use Rattle.tk_handle.specs.TokenId.{token_cmp}
use Rattle.tk_handle.proofs.SpanLaws.{not_past, between, from_first, to_last}
use Rattle.tk_family.specs.declared.children.Child.{Child}
use Rattle.tk_family.specs.Children.{child_cmp, child_key, is_child, Others, others_in, users_in}
use Rattle.tk_family.specs.Children.{first_user, token_at, IsSame, TakesUser, Promotes}
use Rattle.tk_family.specs.Dots.{dot_eq, has}
use Rattle.tk_family.proofs.DotLaws.{dot_eq-true, dot_eq-same, has-cons, has-here, has-there}
use Rattle.tk_family.proofs.Viewing.{exact_tokens}
pub use Rattle.tk_family.proofs.Viewing.{both_tied}
use Rattle.tk_handle.proofs.TestLaws.{equal_of}

-- ---- entries

-- the order of entries is total
children_total : IsTotalOrder child_cmp
children_total = then_total (on_total (λ k. k.parent) dot_cmp_total)
    (then_total (on_total (λ k. k.kind) nat_cmp_total) (on_total (λ k. k.child) dot_cmp_total))

-- entries with equal parts are equal
child_by : (a b : Child) → a.parent ≡ b.parent → a.kind ≡ b.kind → a.child ≡ b.child → a ≡ b
child_by a b h i j = λ x. record { parent = h x; kind = i x; child = j x }

-- entries that tie have equal parts
tied_parts : (a b : Child) → eq_by_cmp child_cmp a b ≡ true
    → (is_eq (dot_cmp a.parent b.parent) ≡ true) × (is_eq (nat_cmp a.kind b.kind) ≡ true)
    × (is_eq (dot_cmp a.child b.child) ≡ true)
tied_parts a b h =
    let p = and_parts _ _
    (sym (both_tied (dot_cmp a.parent b.parent)
    (ordering_then (nat_cmp a.kind b.kind) (dot_cmp a.child b.child)))
    ∙ h) in
    let q =
    and_parts _ _ (sym (both_tied (nat_cmp a.kind b.kind) (dot_cmp a.child b.child)) ∙ p.1) in
    (p.0, q.0, q.1)

-- entries that tie are equal
child_same : (a b : Child) → eq_by_cmp child_cmp a b ≡ true → a ≡ b
child_same a b h =
    let p = tied_parts a b h in
    child_by a b (dot_eq-true a.parent b.parent p.0)
    (exact_unsigned a.kind b.kind (equal_of (nat_cmp a.kind b.kind) p.1))
    (dot_eq-true a.child b.child p.2)

-- a child is itself
pub is_child-same : (t : TokenId) (c : Dot) → is_child t c t c ≡ true
is_child-same t c = ap is_eq (tied_itself children_total (child_key t c))

-- children that are equal have equal tokens and dots
pub is_child-true : (t k : TokenId) (c e : Dot) → is_child t c k e ≡ true → (t ≡ k) × (c ≡ e)
is_child-true t k c e h =
    let p = tied_parts (child_key t c) (child_key k e) h in
    let tie : is_eq (token_cmp t k) ≡ true = both_tied (dot_cmp t.dot k.dot)
    (nat_cmp (kind_number t.kind) (kind_number k.kind))
    ∙ and_from _ _ p.0 p.1 in
    (exact_tokens t k (equal_of (token_cmp t k) tie), dot_eq-true c e p.2)

-- two tokens are equal or not
pub cases_tokens : (j k : TokenId) → (j ≡ k) ⊎ (j ≢ k)
cases_tokens j k = elim (cases_Bool (is_child j least_dot k least_dot)) [
  | inl same ↦ inl (is_child-true j k least_dot least_dot same).0
  | inr apart ↦ inr
      (λ same. true≢false
      (sym (is_child-same j least_dot) ∙ ap (λ (x : TokenId). is_child j least_dot x least_dot) same
      ∙ apart))
]

-- children of different tokens are different
pub is_child-apart : (t k : TokenId) (c e : Dot) → k ≢ t → is_child t c k e ≡ false
is_child-apart t k c e ne =
    false_from_ne_true (is_child t c k e) (λ h. ne (sym (is_child-true t k c e h).0))

-- children at different dots are different
pub is_child-other : (t k : TokenId) (c e : Dot) → c ≢ e → is_child t c k e ≡ false
is_child-other t k c e ne =
    false_from_ne_true (is_child t c k e) (λ h. ne (is_child-true t k c e h).1)

-- ---- the span of a token

-- the entries of one token are in the order of their children
child_order : (k : TokenId) (a b : Dot) → child_cmp (child_key k a) (child_key k b) ≡ dot_cmp a b
child_order k a b =
    ap (λ o. ordering_then o
    (ordering_then (nat_cmp (kind_number k.kind) (kind_number k.kind)) (dot_cmp a b)))
    (tied_itself dot_cmp_total k.dot)
    ∙ ap (λ o. ordering_then o (dot_cmp a b)) (tied_itself nat_cmp_total (kind_number k.kind))

-- the entries between the ends of the span
pub span_is : (s : BTreeSet Child) (k : TokenId) (a b : Child) → a ≡ child_key k least_dot
    → b ≡ child_key k greatest_dot
    → keys_between child_cmp (Included a) (Included b) s ≡ users_in s k
span_is s k a b first last =
    ap (λ (x : Child). keys_between child_cmp (Included x) (Included b) s) first
    ∙ ap (λ (x : Child). keys_between child_cmp (Included (child_key k least_dot)) (Included x) s)
    last

-- the span of a token has an entry, by the test of its two ends
abbrev in_range : TokenId → Child → Bool
in_range k e = range_contains child_cmp (Included (child_key k least_dot))
    (Included (child_key k greatest_dot)) e

-- each dot in range has its entry in the span
in_span : (k : TokenId) (q : Dot) → IsDot q → in_range k (child_key k q) ≡ true
in_span k q h = and_from _ _
    (ap is_le (child_order k least_dot q) ∙ from_first q h)
    (ap (λ o. not (is_lt o)) (child_order k greatest_dot q ∙ dot_cmp_total.antisymm greatest_dot q)
    ∙ not_past (dot_cmp q greatest_dot) (to_last q h))

-- an entry in the span is one of the token
of_token : (k : TokenId) (e : Child) → in_range k e ≡ true → e ≡ child_key k e.child
of_token k e h =
    let p = and_parts _ _ h in
    let dot = between (dot_cmp k.dot e.parent) _ _ p.0 p.1 in
    let kind = between (nat_cmp (kind_number k.kind) e.kind) _ _
    (sym (ap (λ o.
    is_le (ordering_then o
    (ordering_then (nat_cmp (kind_number k.kind) e.kind) (dot_cmp least_dot e.child)))) dot)
    ∙ p.0)
    (sym (ap (λ o.
    not (is_lt
    (ordering_then o
    (ordering_then (nat_cmp (kind_number k.kind) e.kind) (dot_cmp greatest_dot e.child))))) dot)
    ∙ p.1) in
    child_by e (child_key k e.child) (sym (dot_eq-true k.dot e.parent (ap is_eq dot)))
    (sym (exact_unsigned (kind_number k.kind) e.kind kind)) refl

-- ---- lists of entries

-- the dots of entries
abbrev pub dots_of : List Child → List Dot
dots_of cs = map (λ c. c.child) cs

-- an entry is among others, by the order of entries
abbrev among : Child → List Child → Bool
among k ks = list_any (is_at (child_cmp k)) ks

-- an entry of the list has the dot
from_dots : (cs : List Child) (e : Dot) → has (dots_of cs) e ≡ true
    → (x : Child) × (among x cs ≡ true) × (x.child ≡ e)
from_dots [] e h = absurd (true≢false (sym h))
from_dots (x ∷ xs) e h = elim (has-cons x.child (dots_of xs) e h) [
  | inl same ↦ (
    x,
    or_left (is_at (child_cmp x) x) (among x xs) (ap is_eq (tied_itself children_total x)),
    sym same,
  )
  | inr more ↦ let r : (y : Child) × (among y xs ≡ true) × (y.child ≡ e) = from_dots xs e more in
      (r.0, or_right (is_at (child_cmp r.0) x) (among r.0 xs) r.1, r.2)
]

-- an entry that a filter keeps is in the list, and passes
kept_parts : (c : Child → Bool) (k : Child) (ks : List Child) → among k (filter c ks) ≡ true
    → (among k ks ≡ true) × (c k ≡ true)
kept_parts c k [] h = absurd (true≢false (sym h))
kept_parts c k (x ∷ xs) h = elim (cases_Bool (c x)) [
  | inl kept ↦ elim (or_cases (is_at (child_cmp k) x) (among k (filter c xs))
      (sym (ap (among k) (cond-true (c x) (x ∷ filter c xs) (filter c xs) kept)) ∙ h)) [
        | inl tie ↦
            (or_left (is_at (child_cmp k) x) (among k xs) tie, ap c (child_same k x tie) ∙ kept)
        | inr more ↦ let r : (among k xs ≡ true) × (c k ≡ true) = kept_parts c k xs more in
            (or_right (is_at (child_cmp k) x) (among k xs) r.0, r.1)
      ]
  | inr left ↦ let r : (among k xs ≡ true) × (c k ≡ true) =
      kept_parts c k xs
      (sym (ap (among k) (cond-false (c x) (x ∷ filter c xs) (filter c xs) left)) ∙ h) in
      (or_right (is_at (child_cmp k) x) (among k xs) r.0, r.1)
]

-- an entry of the list that passes has its child among those of the entries that are kept
kept_dot : (c : Child → Bool) (k : Child) (ks : List Child) → among k ks ≡ true → c k ≡ true
    → has (dots_of (filter c ks)) k.child ≡ true
kept_dot c k [] at kept = absurd (true≢false (sym at))
kept_dot c k (x ∷ xs) at kept = elim (or_cases (is_at (child_cmp k) x) (among k xs) at) [
  | inl tie ↦
      let same : k ≡ x = child_same k x tie in
      ap (λ (ys : List Child). has (dots_of ys) k.child)
      (cond-true (c x) (x ∷ filter c xs) (filter c xs) (sym (ap c same) ∙ kept))
      ∙ or_left (dot_eq k.child x.child) (has (dots_of (filter c xs)) k.child)
      (ap (λ (y : Child). dot_eq k.child y.child) (sym same) ∙ dot_eq-same k.child)
  | inr more ↦ elim (cases_Bool (c x)) [
    | inl here ↦
        ap (λ (ys : List Child). has (dots_of ys) k.child)
        (cond-true (c x) (x ∷ filter c xs) (filter c xs) here)
        ∙ has-there x.child (dots_of (filter c xs)) k.child (kept_dot c k xs more kept)
    | inr left ↦
        ap (λ (ys : List Child). has (dots_of ys) k.child)
        (cond-false (c x) (x ∷ filter c xs) (filter c xs) left)
        ∙ kept_dot c k xs more kept
  ]
]

-- the span has exactly the children that use the token
pub users-has : (s : BTreeSet Child) (k : TokenId) (e : Dot) → others_in s k e ≡ true → IsDot e
    → has (dots_of (users_in s k)) e ≡ true
users-has s k e at ranged = kept_dot (in_range k) (child_key k e) s.keys at (in_span k e ranged)

-- a user that is listed of a token is one of its others
pub has-users : (s : BTreeSet Child) (k : TokenId) (e : Dot) → has (dots_of (users_in s k)) e ≡ true
    → others_in s k e ≡ true
has-users s k e h =
    let r : (x : Child) × (among x (users_in s k) ≡ true) × (x.child ≡ e) =
    from_dots (users_in s k) e h in
    let p : (among r.0 s.keys ≡ true) × (in_range k r.0 ≡ true) =
    kept_parts (in_range k) r.0 s.keys r.1 in
    ap (λ (y : Dot). others_in s k y) (sym r.2)
    ∙ (ap (λ (x : Child). among x s.keys) (sym (of_token k r.0 p.1)) ∙ p.0)

-- an entry that is below all of a list is below each entry found there
above_key : (x : Child) (xs : List Child) → AllByRecursion (λ y. child_cmp x y ≡ Less) xs
    → (k : Child) → among k xs ≡ true → child_cmp x k ≡ Less
above_key x [] low k at = absurd (true≢false (sym at))
above_key x (y ∷ ys) low k at = elim (or_cases (is_at (child_cmp k) y) (among k ys) at) [
  | inl tie ↦ ap (child_cmp x) (child_same k y tie) ∙ low.0
  | inr more ↦ above_key x ys low.1 k more
]

-- a dot that no dot of a list equals differs from each of them, by the test
fresh_all : (y : Dot) (ys : List Dot) → ((q : Dot) → has ys q ≡ true → y ≢ q)
    → AllByRecursion (λ z. dot_eq y z ≡ false) ys
fresh_all y [] ne = tt
fresh_all y (z ∷ zs) ne = (
  false_from_ne_true (dot_eq y z)
      (λ same. ne z (has-here z zs) (dot_eq-true y z same)),
  fresh_all y zs (λ q h. ne q (has-there z zs q h)),
)

-- the children in the span of a token are distinct
distinct_kept : (k : TokenId) (ks : List Child) → IsStrictlySortedBy child_cmp ks
    → IsDistinct dot_eq (dots_of (filter (in_range k) ks))
unfolding IsStrictlySortedBy IsDistinct
distinct_kept k [] sorted = tt
distinct_kept k (x ∷ xs) sorted = elim (cases_Bool (in_range k x)) [
  | inl kept ↦ subst (λ (ys : List Child). IsDistinct dot_eq (dots_of ys))
      (sym (cond-true (in_range k x) (x ∷ filter (in_range k) xs) (filter (in_range k) xs) kept))
      (IsDistinct-cons dot_eq x.child (dots_of (filter (in_range k) xs))
      (fresh_all x.child (dots_of (filter (in_range k) xs)) (λ q h same.
      let r : (y : Child) × (among y (filter (in_range k) xs) ≡ true) × (y.child ≡ q) =
      from_dots (filter (in_range k) xs) q h in
      let p : (among r.0 xs ≡ true) × (in_range k r.0 ≡ true) =
      kept_parts (in_range k) r.0 xs r.1 in
      let one : x ≡ r.0 =
      of_token k x kept ∙ (ap (child_key k) (same ∙ sym r.2) ∙ sym (of_token k r.0 p.1)) in
      let clash : Equal ≡ Less = sym (tied_itself children_total x)
      ∙ (ap (child_cmp x) one ∙ above_key x xs sorted.0 r.0 p.0) in
      cc)) (distinct_kept k xs sorted.1))
  | inr left ↦ subst (λ (ys : List Child). IsDistinct dot_eq (dots_of ys))
      (sym (cond-false (in_range k x) (x ∷ filter (in_range k) xs) (filter (in_range k) xs) left))
      (distinct_kept k xs sorted.1)
]

-- no user of a token is listed twice
pub users-distinct : (s : BTreeSet Child) (k : TokenId) → IsOrdered child_cmp s
    → IsDistinct dot_eq (dots_of (users_in s k))
users-distinct s k ordered = distinct_kept k s.keys ordered

-- ---- the first child that uses a token

-- the first user of some entries is among their children
first_has : (cs : List Child) (e : Dot) → first_user cs ≡ Some e → has (dots_of cs) e ≡ true
first_has [] e h = absurd (let clash : None ≡ Some e = h in cc)
first_has (x ∷ xs) e h =
    let same : x.child ≡ e = cc in
    subst (λ (y : Dot). has (dots_of (x ∷ xs)) y ≡ true) same (has-here x.child (dots_of xs))

-- entries without a first user have no children
none_has : (cs : List Child) (e : Dot) → first_user cs ≡ None → has (dots_of cs) e ≡ false
none_has [] e h = refl
none_has (x ∷ xs) e h = absurd (let clash : Some x.child ≡ None = h in cc)

-- the first user of a token is one of its others
pub first_listed : (s : BTreeSet Child) (k : TokenId) (e : Dot) → first_user (users_in s k) ≡ Some e
    → others_in s k e ≡ true
first_listed s k e h = has-users s k e (first_has (users_in s k) e h)

-- a token without a first user has no others
pub none_listed : (s : BTreeSet Child) (k : TokenId)
    → ((e : Dot) → others_in s k e ≡ true → IsDot e) → first_user (users_in s k) ≡ None → (e : Dot)
    → others_in s k e ≡ false
none_listed s k ranged h e = false_from_ne_true (others_in s k e)
    (λ at. true≢false (sym (users-has s k e at (ranged e at)) ∙ none_has (users_in s k) e h))

-- nothing changes if a token without a user is to lose one
pub takes_none : (s : BTreeSet Child) (k : TokenId) (o : Option Dot)
    → ((e : Dot) → others_in s k e ≡ true → IsDot e) → o ≡ first_user (users_in s k) → o ≡ None
    → TakesUser (others_in s) (others_in s) k o
takes_none s k o ranged found none = subst (λ (x : Option Dot).
    TakesUser (others_in s) (others_in s) k x) (sym none)
    (none_listed s k ranged (sym found ∙ none), λ j e. refl)

-- no child uses the code of p, and one that uses the refresh token, if there is one, is out of the
-- set
pub promotes_second : (E M N : Others) (p : Dot) (o : Option Dot)
    → ((e : Dot) → E (token_at p kind.Code) e ≡ false) → IsSame E M
    → TakesUser M N (token_at p kind.Refresh) o → Promotes E N p o
promotes_second E M N p None none same x =
    (none, λ e. sym (same (token_at p kind.Refresh) e) ∙ x.0 e, λ k e. x.1 k e ∙ same k e)
promotes_second E M N p (Some c) none same x = (
  kind.Refresh,
  sym (same (token_at p kind.Refresh) c) ∙ x.0,
  λ k e. x.1 k e
      ∙ ap (λ (b : Bool). cond (is_child (token_at p kind.Refresh) c k e) false b) (same k e),
)

-- ---- counts up to two

-- one user is counted as one
pub one_user : (cs rest : List Child) (x : Child) → cs ≡ x ∷ rest → rest ≡ []
    → 1 ≡ length (take 2 cs)
one_user cs rest x first none =
    sym (ap (λ (l : List Child). length (take 2 l)) (first ∙ ap (λ (l : List Child). x ∷ l) none))

-- two users and more are counted as two
pub two_users : (cs rest more : List Child) (x y : Child) → cs ≡ x ∷ rest → rest ≡ y ∷ more
    → 2 ≡ length (take 2 cs)
two_users cs rest more x y first second =
    sym (ap (λ (l : List Child). length (take 2 l)) (first ∙ ap (λ (l : List Child). x ∷ l) second))
