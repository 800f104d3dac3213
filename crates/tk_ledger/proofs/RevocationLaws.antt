-- The table of revocations, and how it follows the set when that gets one more fact. Key results:
--   revocation_tied             keys tie exactly if token, digest, client and dot are equal
--   revocations_forward         the span of a token, a digest and a client runs forward
--   has_revocation_is           the table has a revocation exactly if the client revoked the token
--   ended_same                  a token is ended by the table exactly as by the facts
--   revocations_on, revocations_ranged
--                               the table after any fact
--   revocations_alike           a table with the same keys
use Rattle.std.proofs.Common.{◌≡◌, inl, inr, Bool, true, false, ◌&&◌, ◌||◌, ◌==◌, ℕ, not, List}
use Rattle.std.proofs.Common.{Option, Some, None, refl, sym, ap, subst, ◌∙◌}
use Rattle.std.proofs.lemmas.Bool.{true≢false, or_cases, and_parts, and_from, eqb-true}
use Rattle.std.proofs.lemmas.Cmp.{on_total, then_total, tied_itself}
use Rattle.std.proofs.lemmas.Map.Lookups.{exact_bytes}
use Rattle.std.proofs.lemmas.Slice.Eq.{bytes_eq-Decides}
use Rattle.std.specs.BTreeMap.Range.{range_contains, IsLeBy}
use Rattle.std.specs.BTreeSet.{BTreeSet, contains}
use Rattle.std.specs.Cmp.{IsTotalOrder, nat_cmp_total}
use Rattle.std.specs.Cmp.Lexicographic.{slice_cmp, nat_list_cmp_total}
use Rattle.std.specs.FinMap as map
use Rattle.std.specs.List.{find}
use Rattle.std.specs.Ordering.{nat_cmp, eq_by_cmp, ordering_then, is_eq, is_lt, is_le, is_gt}
use Rattle.std.specs.Str.{bytes_eq}
use Rattle.std.specs.declared.cmp.Ordering.{Ordering}
use Rattle.std.specs.declared.ops.Bound.TheVariants.{Included}
use Rattle.tk_handle.specs.declared.dot.Dot.{Dot}
use Rattle.tk_handle.specs.declared.token_id.TokenId.{TokenId}
use Rattle.tk_handle.specs.Dot.{IsDot, dot_cmp, dot_cmp_total, least_dot, greatest_dot}
use Rattle.tk_handle.specs.Kind.{kind_number}
use Rattle.tk_handle.proofs.SpanLaws.{from_first, to_last, not_past, between}
use Rattle.tk_fact.specs.Tokens.{MintedFields}
use Rattle.tk_fact.specs.declared.body.Body.{Body}
use Rattle.tk_store.specs.FactSet.{FactSet}
use Rattle.tk_store.proofs.EntryLaws.{Passing, any_fact-held, any_fact-of}
use Rattle.tk_handle.proofs.TestLaws.{tied}
use Rattle.tk_store.proofs.OneMoreLaws.{OneMore}
use Rattle.tk_ledger.specs.ByTop.{ended_in}
use Rattle.tk_ledger.specs.Bodies.{is_same_dot, is_same_token}
use Rattle.tk_ledger.specs.Changes.{change_in, revokes_of}
use Rattle.tk_ledger.specs.Index.{is_at, revocation_cmp, revocation_key, revocation_keys}
use Rattle.tk_ledger.specs.Index.{has_revocation, is_revocation_of, is_listed_revocation}
use Rattle.tk_ledger.specs.Index.{IsRevocations}
use Rattle.tk_ledger.specs.Tokens.{Root, revokes, is_revoked, is_ended_by}
use Rattle.tk_ledger.specs.declared.revocations.Revocation.{Revocation}
use Rattle.tk_ledger.proofs.KeyLaws.{same_tests, at_is_same, bytes_tied}
use Rattle.tk_vector.proofs.VersionVectorLaws.{number_tied}
use Rattle.tk_family.proofs.ChildLaws.{both_tied}
use Rattle.tk_ledger.proofs.KeySearchLaws.{every, some_key, any_key, found_passes, none_passes}
use Rattle.tk_ledger.proofs.SameLaws.{same_dot-true}
use Rattle.tk_ledger.proofs.TableLaws.{own_on, revokes-change}

-- ---- keys

-- the order of revocation keys is total
revocations_total : IsTotalOrder revocation_cmp
revocations_total =
    then_total (on_total (λ k. k.dot) dot_cmp_total)
    (then_total (on_total (λ k. k.kind) nat_cmp_total)
    (then_total (on_total (λ k. k.digest) nat_list_cmp_total)
    (then_total (on_total (λ k. k.client) dot_cmp_total) (on_total (λ k. k.place) dot_cmp_total))))

-- revocation keys compare as equal exactly if their parts are equal
key_tied : (a b : Revocation)
    → eq_by_cmp revocation_cmp a b
    ≡ (is_same_dot a.dot b.dot
    && ((a.kind == b.kind)
    && (bytes_eq a.digest b.digest
    && (is_same_dot a.client b.client && is_same_dot a.place b.place))))
key_tied a b =
    both_tied (dot_cmp a.dot b.dot) _
    ∙ ap (λ x. is_eq (dot_cmp a.dot b.dot) && x) (both_tied (nat_cmp a.kind b.kind) _)
    ∙ ap (λ x. is_eq (dot_cmp a.dot b.dot) && (is_eq (nat_cmp a.kind b.kind) && x))
    (both_tied (slice_cmp nat_cmp a.digest b.digest) _)
    ∙ ap (λ x. is_eq (dot_cmp a.dot b.dot)
    && (is_eq (nat_cmp a.kind b.kind) && (is_eq (slice_cmp nat_cmp a.digest b.digest) && x)))
    (both_tied (dot_cmp a.client b.client) (dot_cmp a.place b.place))
    ∙ ap (λ x. x
    && (is_eq (nat_cmp a.kind b.kind)
    && (is_eq (slice_cmp nat_cmp a.digest b.digest)
    && (is_eq (dot_cmp a.client b.client) && is_eq (dot_cmp a.place b.place)))))
    (at_is_same a.dot b.dot)
    ∙ ap (λ x. is_same_dot a.dot b.dot
    && (x && (is_eq (slice_cmp nat_cmp a.digest b.digest)
    && (is_eq (dot_cmp a.client b.client) && is_eq (dot_cmp a.place b.place)))))
    (number_tied a.kind b.kind)
    ∙ ap (λ x. is_same_dot a.dot b.dot
    && ((a.kind == b.kind)
    && (x && (is_eq (dot_cmp a.client b.client) && is_eq (dot_cmp a.place b.place)))))
    (bytes_tied a.digest b.digest)
    ∙ ap (λ x. is_same_dot a.dot b.dot
    && ((a.kind == b.kind)
    && (bytes_eq a.digest b.digest && (x && is_eq (dot_cmp a.place b.place)))))
    (at_is_same a.client b.client)
    ∙ ap (λ x. is_same_dot a.dot b.dot
    && ((a.kind == b.kind) && (bytes_eq a.digest b.digest && (is_same_dot a.client b.client && x))))
    (at_is_same a.place b.place)

-- revocation keys with equal parts are equal
key_by : (a b : Revocation) → a.dot ≡ b.dot → a.kind ≡ b.kind → a.digest ≡ b.digest
    → a.client ≡ b.client → a.place ≡ b.place → a ≡ b
key_by a b h i j k l =
    λ x. record { dot = h x; kind = i x; digest = j x; client = k x; place = l x }

-- keys that tie are equal
key_same : (a b : Revocation) → eq_by_cmp revocation_cmp a b ≡ true → a ≡ b
key_same a b h =
    let p = and_parts _ _ (sym (key_tied a b) ∙ h) in
    let q = and_parts _ _ p.1 in
    let r = and_parts _ _ q.1 in
    let s = and_parts _ _ r.1 in
    key_by a b (same_dot-true a.dot b.dot p.0) (eqb-true a.kind b.kind q.0)
    ((bytes_eq-Decides a.digest b.digest).0 r.0) (same_dot-true a.client b.client s.0)
    (same_dot-true a.place b.place s.1)

-- the keys of revocations tie exactly if token, digest, client and dot are equal
pub revocation_tied : (j k : TokenId) (g h : List ℕ) (c e d q : Dot)
    → eq_by_cmp revocation_cmp (revocation_key j g c d) (revocation_key k h e q)
    ≡ ((is_same_token j k && (bytes_eq g h && is_same_dot c e)) && is_same_dot d q)
revocation_tied j k g h c e d q =
    key_tied (revocation_key j g c d) (revocation_key k h e q)
    ∙ regroup (is_same_dot j.dot k.dot) (kind_number j.kind == kind_number k.kind) (bytes_eq g h)
    (is_same_dot c e) (is_same_dot d q)
  where
    regroup : (a b s c d : Bool) → (a && (b && (s && (c && d)))) ≡ (((a && b) && (s && c)) && d)
    regroup true true true c d = refl
    regroup true true false c d = refl
    regroup true false s c d = refl
    regroup false b s c d = refl

-- ---- the keys of one token, one digest and one client

-- they are in the order of the dots
key_order : (k : TokenId) (g : List ℕ) (c a b : Dot)
    → revocation_cmp (revocation_key k g c a) (revocation_key k g c b) ≡ dot_cmp a b
key_order k g c a b =
    ap (λ o. ordering_then o
    (ordering_then (nat_cmp (kind_number k.kind) (kind_number k.kind))
    (ordering_then (slice_cmp nat_cmp g g) (ordering_then (dot_cmp c c) (dot_cmp a b)))))
    (tied_itself dot_cmp_total k.dot)
    ∙ ap (λ o. ordering_then o
    (ordering_then (slice_cmp nat_cmp g g) (ordering_then (dot_cmp c c) (dot_cmp a b))))
    (tied_itself nat_cmp_total (kind_number k.kind))
    ∙ ap (λ o. ordering_then o (ordering_then (dot_cmp c c) (dot_cmp a b)))
    (tied_itself nat_list_cmp_total g)
    ∙ ap (λ o. ordering_then o (dot_cmp a b)) (tied_itself dot_cmp_total c)

-- the span of a token, a digest and a client runs forward
pub revocations_forward : (k : TokenId) (g : List ℕ) (c : Dot) (a b : Revocation)
    → a ≡ revocation_key k g c least_dot → b ≡ revocation_key k g c greatest_dot
    → IsLeBy revocation_cmp a b
revocations_forward k g c a b first last =
    ap (λ (x : Revocation). is_gt (revocation_cmp x b)) first
    ∙ ap (λ (x : Revocation). is_gt (revocation_cmp (revocation_key k g c least_dot) x)) last
    ∙ ap is_gt (key_order k g c least_dot greatest_dot)

-- the span of a token, digest and client has a key, by the test of its two ends
abbrev in_range : TokenId → List ℕ → Dot → Revocation → Bool
in_range k g c e = range_contains revocation_cmp (Included (revocation_key k g c least_dot))
    (Included (revocation_key k g c greatest_dot)) e

-- each dot in range has its key in the span
in_span : (k : TokenId) (g : List ℕ) (c q : Dot) → IsDot q
    → in_range k g c (revocation_key k g c q) ≡ true
in_span k g c q h = and_from _ _
    (ap is_le (key_order k g c least_dot q) ∙ from_first q h)
    (ap (λ o. not (is_lt o))
    (key_order k g c greatest_dot q ∙ dot_cmp_total.antisymm greatest_dot q)
    ∙ not_past (dot_cmp q greatest_dot) (to_last q h))

-- a key in the span is one of the token, the digest and the client
of_token : (k : TokenId) (g : List ℕ) (c : Dot) (e : Revocation) → in_range k g c e ≡ true
    → e ≡ revocation_key k g c e.place
of_token k g c e h =
    let p = and_parts _ _ h in
    let dot = between (dot_cmp k.dot e.dot) (by_kind least_dot) (by_kind greatest_dot) p.0 p.1 in
    let low = sym (ap (λ o. is_le (ordering_then o (by_kind least_dot))) dot) ∙ p.0 in
    let high = sym (ap (λ o. not (is_lt (ordering_then o (by_kind greatest_dot)))) dot) ∙ p.1 in
    let kind = between (nat_cmp (kind_number k.kind) e.kind) (by_digest least_dot)
    (by_digest greatest_dot) low high in
    let low = sym (ap (λ o. is_le (ordering_then o (by_digest least_dot))) kind) ∙ low in
    let high = sym (ap (λ o. not (is_lt (ordering_then o (by_digest greatest_dot)))) kind) ∙ high in
    let digest = between (slice_cmp nat_cmp g e.digest) (by_client least_dot)
    (by_client greatest_dot) low high in
    let low = sym (ap (λ o. is_le (ordering_then o (by_client least_dot))) digest) ∙ low in
    let high =
    sym (ap (λ o. not (is_lt (ordering_then o (by_client greatest_dot)))) digest) ∙ high in
    let client = between (dot_cmp c e.client) (dot_cmp least_dot e.place)
    (dot_cmp greatest_dot e.place) low high in
    key_by e (revocation_key k g c e.place)
    (sym (tied k.dot e.dot (ap is_eq dot)))
    (sym (eqb-true (kind_number k.kind) e.kind
    (sym (number_tied (kind_number k.kind) e.kind) ∙ ap is_eq kind)))
    (sym (exact_bytes g e.digest digest))
    (sym (tied c e.client (ap is_eq client)))
    refl
  where
    by_client : Dot → Ordering
    by_client q = ordering_then (dot_cmp c e.client) (dot_cmp q e.place)

    by_digest : Dot → Ordering
    by_digest q = ordering_then (slice_cmp nat_cmp g e.digest) (by_client q)

    by_kind : Dot → Ordering
    by_kind q = ordering_then (nat_cmp (kind_number k.kind) e.kind) (by_digest q)

-- ---- the table has a revocation exactly if the client revoked the token

-- a token whose revocation is held at a dot is revoked, by the test
revocation_held : (F : FactSet) (k : TokenId) (g : List ℕ) (c d : Dot) (o : Option Body)
    → map.get F d ≡ o → is_revocation_of k g c o ≡ true → is_revoked F k g c ≡ true
revocation_held F k g c d None at h = absurd (true≢false (sym h))
revocation_held F k g c d (Some b) at h = any_fact-of (revokes k g c) F d b at h

-- the table has a revocation exactly if the client revoked the token
pub has_revocation_is : (F : FactSet) (t : BTreeSet Revocation) (k : TokenId) (g : List ℕ) (c : Dot)
    → IsRevocations F t → has_revocation t k g c ≡ is_revoked F k g c
has_revocation_is F t k g c i = same_tests (has_revocation t k g c) (is_revoked F k g c)
    (λ h.
    let e : (e : Revocation) × (find every (revocation_keys t k g c) ≡ Some e) =
    some_key (revocation_keys t k g c) h in
    let found =
    found_passes revocation_cmp revocations_total key_same every (in_range k g c) t.keys e.0 e.1 in
    revocation_held F k g c e.0.place (map.get F e.0.place) refl
    (sym (i.listed k g c e.0.place)
    ∙ (ap (contains revocation_cmp t) (sym (of_token k g c e.0 found.1)) ∙ found.2)))
    (λ h. any_key (revocation_keys t k g c) (λ none.
    let x : Passing (revokes k g c) F = any_fact-held (revokes k g c) F h in
    let at : is_listed_revocation t k g c x.dot ≡ true =
    i.listed k g c x.dot ∙ ap (is_revocation_of k g c) x.held ∙ x.passes in
    none_passes revocation_cmp revocations_total key_same every (in_range k g c) t.keys none
    (revocation_key k g c x.dot) at (in_span k g c x.dot (i.ranged k g c x.dot at)) refl))

-- a token is ended by the table exactly as by the facts
pub ended_same : (F : FactSet) (t : BTreeSet Revocation) (k : TokenId) → IsRevocations F t
    → (m : Option MintedFields) (r : Option Root) → ended_in t k m r ≡ is_ended_by F k m r
ended_same F t k i None r = refl
ended_same F t k i (Some m) None = refl
ended_same F t k i (Some m) (Some r) = has_revocation_is F t k m.digest r.issued.client i

-- ---- one more fact

-- each dot that is listed is in range
abbrev pub RangedRevocations : BTreeSet Revocation → Type 0
RangedRevocations t =
    (k : TokenId) (g : List ℕ) (c d : Dot) → is_listed_revocation t k g c d ≡ true → IsDot d

-- a revocation at a dot is the new fact's, or one from before
pub revoked_on : (F G : FactSet) (d : Dot) (b : Body) (k : TokenId) (g : List ℕ) (c q : Dot)
    (x : Bool)
    → OneMore F G d b → x ≡ is_revocation_of k g c (map.get F q)
    → ((revokes_of k g c (change_in b) && is_at d q) || x) ≡ is_revocation_of k g c (map.get G q)
revoked_on F G d b k g c q x m i =
    own_on d q (revokes_of k g c (change_in b)) x (is_revocation_of k g c (map.get F q))
    (is_revocation_of k g c (map.get G q))
    (λ same. ap (is_revocation_of k g c) (ap (map.get F) same ∙ m.free))
    (λ same. ap (is_revocation_of k g c) (ap (map.get G) same ∙ m.here) ∙ revokes-change k g c b)
    (λ ne. ap (is_revocation_of k g c) (m.there q ne))
    i

-- the table follows the set with one more fact
pub revocations_on : (F G : FactSet) (d : Dot) (b : Body) (t u : BTreeSet Revocation)
    → OneMore F G d b → IsRevocations F t → RangedRevocations u
    → ((k : TokenId) (g : List ℕ) (c q : Dot)
    → is_listed_revocation u k g c q
    ≡ ((revokes_of k g c (change_in b) && is_at d q) || is_listed_revocation t k g c q))
    → IsRevocations G u
revocations_on F G d b t u m i ranged l = record {
  listed = λ k g c q.
      l k g c q ∙ revoked_on F G d b k g c q (is_listed_revocation t k g c q) m (i.listed k g c q);
  ranged = ranged;
}

-- dots that are newly listed are in range if their dot is
pub revocations_ranged : (t u : BTreeSet Revocation) (d : Dot) (n : TokenId → List ℕ → Dot → Bool)
    → IsDot d → RangedRevocations t
    → ((k : TokenId) (g : List ℕ) (c q : Dot)
    → is_listed_revocation u k g c q
    ≡ ((n k g c && is_same_dot d q) || is_listed_revocation t k g c q))
    → RangedRevocations u
revocations_ranged t u d n here before l k g c q h = elim (or_cases (n k g c && is_same_dot d q)
    (is_listed_revocation t k g c q) (sym (l k g c q) ∙ h)) [
      | inl new ↦ subst (λ (x : Dot). IsDot x)
          (same_dot-true d q (and_parts (n k g c) (is_same_dot d q) new).1) here
      | inr old ↦ before k g c q old
    ]

-- a table with the same keys is of the same facts
pub revocations_alike : (F : FactSet) (t u : BTreeSet Revocation) → IsRevocations F t
    → ((e : Revocation) → contains revocation_cmp u e ≡ contains revocation_cmp t e)
    → IsRevocations F u
revocations_alike F t u i same = record {
  listed = λ k g c q. same (revocation_key k g c q) ∙ i.listed k g c q;
  ranged = λ k g c q h. i.ranged k g c q (sym (same (revocation_key k g c q)) ∙ h);
}
