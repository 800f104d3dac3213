-- The keys of secrets. Key results:
--   secrets_total, secret_same, secret_tied   keys tie exactly if they are equal
--   client_forward, secret_forward            the spans run forward
--   in_client, of_client                      the span of a client has its keys, and no others
--   in_secret, of_secret                      the span of one secret has its keys, and no others
use Rattle.std.proofs.Common.{◌≡◌, inl, inr, ℕ, ◌<◌, ◌==◌, Bool, true, false, ◌&&◌, not, List, []}
use Rattle.std.proofs.Common.{◌∷◌, length, zero, suc, refl, sym, ap, ◌∙◌, arith}
use Rattle.std.proofs.lemmas.Bool.{eqb-true, and_parts, and_from}
use Rattle.std.proofs.lemmas.Cmp.{on_total, then_total, tied_itself}
use Rattle.std.proofs.lemmas.Map.Lookups.{exact_bytes}
use Rattle.std.proofs.lemmas.Slice.Eq.{bytes_eq-Decides}
use Rattle.std.specs.BTreeMap.Range.{range_contains, IsLeBy}
use Rattle.std.specs.Cmp.{IsTotalOrder, nat_cmp_total}
use Rattle.std.specs.Cmp.Lexicographic.{slice_cmp, nat_list_cmp_total}
use Rattle.std.specs.Ordering.{nat_cmp, eq_by_cmp, ordering_then, ordering_reverse, is_eq, is_lt}
use Rattle.std.specs.Ordering.{is_le, is_gt}
use Rattle.std.specs.Prelude.{replicate}
use Rattle.std.specs.Str.{bytes_eq}
use Rattle.std.specs.declared.cmp.Ordering.{Ordering}
use Rattle.std.specs.declared.cmp.Ordering.TheVariants.{Less, Equal, Greater}
use Rattle.std.specs.declared.ops.Bound.TheVariants.{Included}
use Rattle.tk_handle.specs.declared.dot.Dot.{Dot}
use Rattle.tk_handle.specs.Dot.{IsDot, dot_cmp, dot_cmp_total, least_dot, greatest_dot}
use Rattle.tk_handle.proofs.SpanLaws.{number_le, from_first, to_last, not_past, between}
use Rattle.tk_handle.proofs.TestLaws.{tied}
use Rattle.tk_ledger.specs.Bodies.{is_same_dot}
use Rattle.tk_ledger.specs.SecretTables.{secret_cmp, secret_key, first_of, last_of, max_key}
use Rattle.tk_ledger.specs.declared.secrets.SecretKey.{SecretKey}
use Rattle.tk_ledger.proofs.KeyLaws.{at_is_same, bytes_tied}
use Rattle.tk_vector.proofs.VersionVectorLaws.{number_tied}
use Rattle.tk_family.proofs.ChildLaws.{both_tied}
use Rattle.tk_ledger.proofs.SameLaws.{same_dot-true}

-- ---- keys

-- the order of secret keys is total
pub secrets_total : IsTotalOrder secret_cmp
secrets_total =
    then_total (on_total (λ k. k.client) dot_cmp_total)
    (then_total (on_total (λ k. k.left) nat_cmp_total)
    (then_total (on_total (λ k. k.digest) nat_list_cmp_total)
    (on_total (λ k. k.place) dot_cmp_total)))

-- secret keys compare as equal exactly if their parts are equal
key_tied : (a b : SecretKey)
    → eq_by_cmp secret_cmp a b
    ≡ (is_same_dot a.client b.client
    && ((a.left == b.left) && (bytes_eq a.digest b.digest && is_same_dot a.place b.place)))
key_tied a b =
    both_tied (dot_cmp a.client b.client) _
    ∙ ap (λ x. is_eq (dot_cmp a.client b.client) && x) (both_tied (nat_cmp a.left b.left) _)
    ∙ ap (λ x. is_eq (dot_cmp a.client b.client) && (is_eq (nat_cmp a.left b.left) && x))
    (both_tied (slice_cmp nat_cmp a.digest b.digest) (dot_cmp a.place b.place))
    ∙ ap (λ x. x
    && (is_eq (nat_cmp a.left b.left)
    && (is_eq (slice_cmp nat_cmp a.digest b.digest) && is_eq (dot_cmp a.place b.place))))
    (at_is_same a.client b.client)
    ∙ ap (λ x. is_same_dot a.client b.client
    && (x && (is_eq (slice_cmp nat_cmp a.digest b.digest) && is_eq (dot_cmp a.place b.place))))
    (number_tied a.left b.left)
    ∙ ap (λ x. is_same_dot a.client b.client
    && ((a.left == b.left) && (x && is_eq (dot_cmp a.place b.place))))
    (bytes_tied a.digest b.digest)
    ∙ ap (λ x. is_same_dot a.client b.client
    && ((a.left == b.left) && (bytes_eq a.digest b.digest && x)))
    (at_is_same a.place b.place)

-- secret keys with equal parts are equal
key_by : (a b : SecretKey) → a.client ≡ b.client → a.left ≡ b.left → a.digest ≡ b.digest
    → a.place ≡ b.place → a ≡ b
key_by a b h i j k = λ x. record { client = h x; left = i x; digest = j x; place = k x }

-- keys that tie are equal
pub secret_same : (a b : SecretKey) → eq_by_cmp secret_cmp a b ≡ true → a ≡ b
secret_same a b h =
    let p = and_parts _ _ (sym (key_tied a b) ∙ h) in
    let q = and_parts _ _ p.1 in
    let r = and_parts _ _ q.1 in
    key_by a b (same_dot-true a.client b.client p.0) (eqb-true a.left b.left q.0)
    ((bytes_eq-Decides a.digest b.digest).0 r.0) (same_dot-true a.place b.place r.1)

-- the keys of secrets tie exactly if client, turns left, digest and dot are equal
pub secret_tied : (c e : Dot) (l m : ℕ) (g h : List ℕ) (d q : Dot)
    → eq_by_cmp secret_cmp (secret_key c l g d) (secret_key e m h q)
    ≡ ((is_same_dot c e && ((l == m) && bytes_eq g h)) && is_same_dot d q)
secret_tied c e l m g h d q =
    key_tied (secret_key c l g d) (secret_key e m h q)
    ∙ regroup (is_same_dot c e) (l == m) (bytes_eq g h) (is_same_dot d q)
  where
    regroup : (a b s d : Bool) → (a && (b && (s && d))) ≡ ((a && (b && s)) && d)
    regroup true true s d = refl
    regroup true false s d = refl
    regroup false b s d = refl

-- ---- the keys of one client

-- the keys of one client are in the order of the turns left
pub client_order : (c : Dot) (l m : ℕ) (g h : List ℕ) (a b : Dot)
    → secret_cmp (secret_key c l g a) (secret_key c m h b)
    ≡ ordering_then (nat_cmp l m) (ordering_then (slice_cmp nat_cmp g h) (dot_cmp a b))
client_order c l m g h a b =
    ap (λ o. ordering_then o
    (ordering_then (nat_cmp l m) (ordering_then (slice_cmp nat_cmp g h) (dot_cmp a b))))
    (tied_itself dot_cmp_total c)

-- the span of a client runs forward
pub client_forward : (c : Dot) (a b : SecretKey) → a ≡ first_of c → b ≡ last_of c
    → IsLeBy secret_cmp a b
client_forward c a b first last =
    ap (λ (x : SecretKey). is_gt (secret_cmp x b)) first
    ∙ ap (λ (x : SecretKey). is_gt (secret_cmp (first_of c) x)) last
    ∙ ap is_gt
    (client_order c 0 max_key (replicate 32 0) (replicate 32 255) least_dot greatest_dot)

-- zeros are above no digest that is as long
zeros_first : (n : ℕ) (g : List ℕ) → length g ≡ n
    → is_gt (slice_cmp nat_cmp (replicate n 0) g) ≡ false
zeros_first zero [] h = refl
zeros_first zero (x ∷ g) h = refl
zeros_first (suc n) [] h = absurd (shorter h)
  where
    shorter : ¬ (0 ≡ suc n)
    shorter e = omega (arith, e)
zeros_first (suc n) (x ∷ g) h = elim (number_le 0 x (omega arith)) [
  | inl less ↦ ap (λ o. is_gt (ordering_then o (slice_cmp nat_cmp (replicate n 0) g))) less
  | inr same ↦ ap (λ o. is_gt (ordering_then o (slice_cmp nat_cmp (replicate n 0) g))) same
      ∙ zeros_first n g (omega (arith, h))
]

-- a key is at most another if its first part isn't above and the rest is at most the other's
le_then : (o r : Ordering) → is_gt o ≡ false → is_le r ≡ true → is_le (ordering_then o r) ≡ true
le_then Less r h i = refl
le_then Equal r h i = i
le_then Greater r h i = sym h

-- a key is in the span of the client
abbrev pub is_of_client : Dot → SecretKey → Bool
is_of_client c e = range_contains secret_cmp (Included (first_of c)) (Included (last_of c)) e

-- the key of a secret of the client, but for turn 0, is in the span
pub in_client : (c : Dot) (l : ℕ) (g : List ℕ) (q : Dot) → l < max_key → length g ≡ 32
    → IsDot q → is_of_client c (secret_key c l g q) ≡ true
in_client c l g q below long h = and_from _ _
    (ap is_le (client_order c 0 l (replicate 32 0) g least_dot q)
    ∙ elim (number_le 0 l (omega arith)) [
      | inl less ↦ ap (λ o. is_le (ordering_then o by_digest)) less
      | inr same ↦ ap (λ o. is_le (ordering_then o by_digest)) same
          ∙ le_then (slice_cmp nat_cmp (replicate 32 0) g) (dot_cmp least_dot q)
          (zeros_first 32 g long) (from_first q h)
    ])
    (ap (λ o. not (is_lt o)) (client_order c max_key l (replicate 32 255) g greatest_dot q)
    ∙ ap (λ o. not (is_lt (ordering_then o from_last))) (nat_cmp_total.antisymm max_key l)
    ∙ elim (number_le l max_key (omega (arith, below))) [
      | inl less ↦ ap (λ o. not (is_lt (ordering_then (ordering_reverse o) from_last))) less
      | inr same ↦ absurd (apart (eqb-true l max_key
          (sym (number_tied l max_key) ∙ ap is_eq same)))
    ])
  where
    by_digest : Ordering
    by_digest = ordering_then (slice_cmp nat_cmp (replicate 32 0) g) (dot_cmp least_dot q)

    from_last : Ordering
    from_last = ordering_then (slice_cmp nat_cmp (replicate 32 255) g) (dot_cmp greatest_dot q)

    apart : ¬ (l ≡ max_key)
    apart e = omega (arith, below, e)

-- a key in the span is one of the client
pub of_client : (c : Dot) (e : SecretKey) → is_of_client c e ≡ true
    → e ≡ secret_key c e.left e.digest e.place
of_client c e h =
    let p = and_parts _ _ h in
    key_by e (secret_key c e.left e.digest e.place)
    (sym (tied c e.client (ap is_eq (between (dot_cmp c e.client) _ _ p.0 p.1)))) refl refl refl

-- ---- the keys of one secret

-- the keys of one secret are in the order of the dots
key_order : (c : Dot) (l : ℕ) (g : List ℕ) (a b : Dot)
    → secret_cmp (secret_key c l g a) (secret_key c l g b) ≡ dot_cmp a b
key_order c l g a b =
    client_order c l l g g a b
    ∙ ap (λ o. ordering_then o (ordering_then (slice_cmp nat_cmp g g) (dot_cmp a b)))
    (tied_itself nat_cmp_total l)
    ∙ ap (λ o. ordering_then o (dot_cmp a b)) (tied_itself nat_list_cmp_total g)

-- the span of one secret runs forward
pub secret_forward : (c : Dot) (l : ℕ) (g : List ℕ) (a b : SecretKey)
    → a ≡ secret_key c l g least_dot → b ≡ secret_key c l g greatest_dot → IsLeBy secret_cmp a b
secret_forward c l g a b first last =
    ap (λ (x : SecretKey). is_gt (secret_cmp x b)) first
    ∙ ap (λ (x : SecretKey). is_gt (secret_cmp (secret_key c l g least_dot) x)) last
    ∙ ap is_gt (key_order c l g least_dot greatest_dot)

-- a key is in the span of one secret of the client
abbrev pub is_of_secret : Dot → ℕ → List ℕ → SecretKey → Bool
is_of_secret c l g e = range_contains secret_cmp (Included (secret_key c l g least_dot))
    (Included (secret_key c l g greatest_dot)) e

-- each dot in range has its key in the span
pub in_secret : (c : Dot) (l : ℕ) (g : List ℕ) (q : Dot) → IsDot q
    → is_of_secret c l g (secret_key c l g q) ≡ true
in_secret c l g q h = and_from _ _
    (ap is_le (key_order c l g least_dot q) ∙ from_first q h)
    (ap (λ o. not (is_lt o)) (key_order c l g greatest_dot q
    ∙ dot_cmp_total.antisymm greatest_dot q)
    ∙ not_past (dot_cmp q greatest_dot) (to_last q h))

-- a key in the span is one of the secret
pub of_secret : (c : Dot) (l : ℕ) (g : List ℕ) (e : SecretKey) → is_of_secret c l g e ≡ true
    → e ≡ secret_key c l g e.place
of_secret c l g e h =
    let p = and_parts _ _ h in
    let client = between (dot_cmp c e.client) (by_left least_dot) (by_left greatest_dot) p.0 p.1 in
    let low = sym (ap (λ o. is_le (ordering_then o (by_left least_dot))) client) ∙ p.0 in
    let high = sym (ap (λ o. not (is_lt (ordering_then o (by_left greatest_dot)))) client) ∙ p.1 in
    let left = between (nat_cmp l e.left) (by_digest least_dot) (by_digest greatest_dot) low high in
    let low = sym (ap (λ o. is_le (ordering_then o (by_digest least_dot))) left) ∙ low in
    let high = sym (ap (λ o. not (is_lt (ordering_then o (by_digest greatest_dot)))) left) ∙ high in
    let digest = between (slice_cmp nat_cmp g e.digest) (dot_cmp least_dot e.place)
    (dot_cmp greatest_dot e.place) low high in
    key_by e (secret_key c l g e.place)
    (sym (tied c e.client (ap is_eq client)))
    (sym (eqb-true l e.left (sym (number_tied l e.left) ∙ ap is_eq left)))
    (sym (exact_bytes g e.digest digest))
    refl
  where
    by_digest : Dot → Ordering
    by_digest q = ordering_then (slice_cmp nat_cmp g e.digest) (dot_cmp q e.place)

    by_left : Dot → Ordering
    by_left q = ordering_then (nat_cmp l e.left) (by_digest q)
