-- The table of reuses, and how it follows the set when that gets one more fact. Key results:
--   reuse_tied                  keys tie exactly if token and dot are equal
--   reuses_forward              the span of a token runs forward
--   has_reuse_is                the table has a reuse of exactly the tokens whose reuse was seen
--   reuses_on, reuses_ranged    the table after any fact
--   reuses_alike                a table with the same keys
use Rattle.std.proofs.Common.{◌≡◌, inl, inr, Bool, true, false, ◌&&◌, ◌||◌, ◌==◌, not, Option, Some}
use Rattle.std.proofs.Common.{None, refl, sym, ap, subst, ◌∙◌}
use Rattle.std.proofs.lemmas.Bool.{true≢false, or_cases, and_parts, and_from, eqb-true}
use Rattle.std.proofs.lemmas.Cmp.{on_total, then_total, tied_itself}
use Rattle.std.specs.BTreeMap.Range.{range_contains, IsLeBy}
use Rattle.std.specs.BTreeSet.{BTreeSet, contains}
use Rattle.std.specs.Cmp.{IsTotalOrder, nat_cmp_total}
use Rattle.std.specs.FinMap as map
use Rattle.std.specs.List.{find}
use Rattle.std.specs.Ordering.{nat_cmp, eq_by_cmp, ordering_then, is_eq, is_lt, is_le, is_gt}
use Rattle.std.specs.declared.ops.Bound.TheVariants.{Included}
use Rattle.tk_handle.specs.declared.dot.Dot.{Dot}
use Rattle.tk_handle.specs.declared.token_id.TokenId.{TokenId}
use Rattle.tk_handle.specs.Dot.{IsDot, dot_cmp, dot_cmp_total, least_dot, greatest_dot}
use Rattle.tk_handle.specs.Kind.{kind_number}
use Rattle.tk_handle.proofs.SpanLaws.{from_first, to_last, not_past, between}
use Rattle.tk_fact.specs.declared.body.Body.{Body}
use Rattle.tk_store.specs.FactSet.{FactSet}
use Rattle.tk_store.proofs.EntryLaws.{Passing, any_fact-held, any_fact-of}
use Rattle.tk_handle.proofs.TestLaws.{tied}
use Rattle.tk_store.proofs.OneMoreLaws.{OneMore}
use Rattle.tk_ledger.specs.Bodies.{is_same_dot, is_same_token}
use Rattle.tk_ledger.specs.Changes.{change_in, reuses_of}
use Rattle.tk_ledger.specs.Index.{is_at, reuse_cmp, reuse_key, reuse_keys, has_reuse, is_reuse_of}
use Rattle.tk_ledger.specs.Index.{is_listed_reuse, IsReuses}
use Rattle.tk_ledger.specs.Tokens.{sees_reuse, is_reused}
use Rattle.tk_ledger.specs.declared.reuses.ReuseKey.{ReuseKey}
use Rattle.tk_ledger.proofs.ForestLaws.{reuse-change}
use Rattle.tk_ledger.proofs.KeyLaws.{same_tests, at_is_same}
use Rattle.tk_vector.proofs.VersionVectorLaws.{number_tied}
use Rattle.tk_family.proofs.ChildLaws.{both_tied}
use Rattle.tk_ledger.proofs.KeySearchLaws.{every, some_key, any_key, found_passes, none_passes}
use Rattle.tk_ledger.proofs.SameLaws.{same_dot-true}
use Rattle.tk_ledger.proofs.TableLaws.{own_on}

-- ---- keys

-- the order of reuse keys is total
reuses_total : IsTotalOrder reuse_cmp
reuses_total = then_total (on_total (λ k. k.dot) dot_cmp_total)
    (then_total (on_total (λ k. k.kind) nat_cmp_total) (on_total (λ k. k.place) dot_cmp_total))

-- reuse keys compare as equal exactly if their parts are equal
key_tied : (a b : ReuseKey)
    → eq_by_cmp reuse_cmp a b
    ≡ (is_same_dot a.dot b.dot && ((a.kind == b.kind) && is_same_dot a.place b.place))
key_tied a b =
    both_tied (dot_cmp a.dot b.dot) _
    ∙ ap (λ x. is_eq (dot_cmp a.dot b.dot) && x)
    (both_tied (nat_cmp a.kind b.kind) (dot_cmp a.place b.place))
    ∙ ap (λ x. x && (is_eq (nat_cmp a.kind b.kind) && is_eq (dot_cmp a.place b.place)))
    (at_is_same a.dot b.dot)
    ∙ ap (λ x. is_same_dot a.dot b.dot && (x && is_eq (dot_cmp a.place b.place)))
    (number_tied a.kind b.kind)
    ∙ ap (λ x. is_same_dot a.dot b.dot && ((a.kind == b.kind) && x)) (at_is_same a.place b.place)

-- reuse keys with equal parts are equal
key_by : (a b : ReuseKey) → a.dot ≡ b.dot → a.kind ≡ b.kind → a.place ≡ b.place → a ≡ b
key_by a b h i j = λ x. record { dot = h x; kind = i x; place = j x }

-- keys that tie are equal
key_same : (a b : ReuseKey) → eq_by_cmp reuse_cmp a b ≡ true → a ≡ b
key_same a b h =
    let p = and_parts _ _ (sym (key_tied a b) ∙ h) in
    let q = and_parts _ _ p.1 in
    key_by a b (same_dot-true a.dot b.dot p.0) (eqb-true a.kind b.kind q.0)
    (same_dot-true a.place b.place q.1)

-- the keys of reuses tie exactly if token and dot are equal
pub reuse_tied : (j k : TokenId) (d q : Dot)
    → eq_by_cmp reuse_cmp (reuse_key j d) (reuse_key k q) ≡ (is_same_token j k && is_same_dot d q)
reuse_tied j k d q = key_tied (reuse_key j d) (reuse_key k q)
    ∙ regroup (is_same_dot j.dot k.dot) (kind_number j.kind == kind_number k.kind) (is_same_dot d q)
  where
    regroup : (a b c : Bool) → (a && (b && c)) ≡ ((a && b) && c)
    regroup true b c = refl
    regroup false b c = refl

-- ---- the keys of one token

-- the keys of one token are in the order of the dots
key_order : (k : TokenId) (a b : Dot) → reuse_cmp (reuse_key k a) (reuse_key k b) ≡ dot_cmp a b
key_order k a b =
    ap (λ o. ordering_then o
    (ordering_then (nat_cmp (kind_number k.kind) (kind_number k.kind)) (dot_cmp a b)))
    (tied_itself dot_cmp_total k.dot)
    ∙ ap (λ o. ordering_then o (dot_cmp a b)) (tied_itself nat_cmp_total (kind_number k.kind))

-- the span of a token runs forward
pub reuses_forward : (k : TokenId) (a b : ReuseKey) → a ≡ reuse_key k least_dot
    → b ≡ reuse_key k greatest_dot → IsLeBy reuse_cmp a b
reuses_forward k a b first last =
    ap (λ (x : ReuseKey). is_gt (reuse_cmp x b)) first
    ∙ ap (λ (x : ReuseKey). is_gt (reuse_cmp (reuse_key k least_dot) x)) last
    ∙ ap is_gt (key_order k least_dot greatest_dot)

-- the span of a token has a key, by the test of its two ends
abbrev in_range : TokenId → ReuseKey → Bool
in_range k e = range_contains reuse_cmp (Included (reuse_key k least_dot))
    (Included (reuse_key k greatest_dot)) e

-- each dot in range has its key in the span
in_span : (k : TokenId) (q : Dot) → IsDot q → in_range k (reuse_key k q) ≡ true
in_span k q h = and_from _ _
    (ap is_le (key_order k least_dot q) ∙ from_first q h)
    (ap (λ o. not (is_lt o)) (key_order k greatest_dot q ∙ dot_cmp_total.antisymm greatest_dot q)
    ∙ not_past (dot_cmp q greatest_dot) (to_last q h))

-- a key in the span is one of the token
of_token : (k : TokenId) (e : ReuseKey) → in_range k e ≡ true → e ≡ reuse_key k e.place
of_token k e h =
    let p = and_parts _ _ h in
    let dot = between (dot_cmp k.dot e.dot) _ _ p.0 p.1 in
    let kind = between (nat_cmp (kind_number k.kind) e.kind) _ _
    (sym (ap (λ o.
    is_le (ordering_then o
    (ordering_then (nat_cmp (kind_number k.kind) e.kind) (dot_cmp least_dot e.place)))) dot)
    ∙ p.0)
    (sym (ap (λ o.
    not (is_lt
    (ordering_then o
    (ordering_then (nat_cmp (kind_number k.kind) e.kind) (dot_cmp greatest_dot e.place))))) dot)
    ∙ p.1) in
    key_by e (reuse_key k e.place) (sym (tied k.dot e.dot (ap is_eq dot)))
    (sym (eqb-true (kind_number k.kind) e.kind
    (sym (number_tied (kind_number k.kind) e.kind) ∙ ap is_eq kind))) refl

-- ---- the table has a reuse of exactly the tokens whose reuse was seen

-- a token whose reuse is held at a dot is reused, by the test
reuse_held : (F : FactSet) (k : TokenId) (d : Dot) (o : Option Body) → map.get F d ≡ o
    → is_reuse_of k o ≡ true → is_reused F k ≡ true
reuse_held F k d None at h = absurd (true≢false (sym h))
reuse_held F k d (Some b) at h = any_fact-of (sees_reuse k) F d b at h

-- the table has a reuse of exactly the tokens whose reuse was seen
pub has_reuse_is : (F : FactSet) (t : BTreeSet ReuseKey) (k : TokenId) → IsReuses F t
    → has_reuse t k ≡ is_reused F k
has_reuse_is F t k i = same_tests (has_reuse t k) (is_reused F k)
    (λ h.
    let e : (e : ReuseKey) × (find every (reuse_keys t k) ≡ Some e) = some_key (reuse_keys t k) h in
    let found = found_passes reuse_cmp reuses_total key_same every (in_range k) t.keys e.0 e.1 in
    reuse_held F k e.0.place (map.get F e.0.place) refl
    (sym (i.listed k e.0.place)
    ∙ (ap (contains reuse_cmp t) (sym (of_token k e.0 found.1)) ∙ found.2)))
    (λ h. any_key (reuse_keys t k) (λ none.
    let x : Passing (sees_reuse k) F = any_fact-held (sees_reuse k) F h in
    let at : is_listed_reuse t k x.dot ≡ true =
    i.listed k x.dot ∙ ap (is_reuse_of k) x.held ∙ x.passes in
    none_passes reuse_cmp reuses_total key_same every (in_range k) t.keys none
    (reuse_key k x.dot) at (in_span k x.dot (i.ranged k x.dot at)) refl))

-- ---- one more fact

-- each dot that is listed is in range
abbrev pub RangedReuses : BTreeSet ReuseKey → Type 0
RangedReuses t = (k : TokenId) (d : Dot) → is_listed_reuse t k d ≡ true → IsDot d

-- a reuse at a dot is the new fact's, or one from before
pub reused_on : (F G : FactSet) (d : Dot) (b : Body) (k : TokenId) (q : Dot) (x : Bool)
    → OneMore F G d b → x ≡ is_reuse_of k (map.get F q)
    → ((reuses_of k (change_in b) && is_at d q) || x) ≡ is_reuse_of k (map.get G q)
reused_on F G d b k q x m i =
    own_on d q (reuses_of k (change_in b)) x (is_reuse_of k (map.get F q))
    (is_reuse_of k (map.get G q))
    (λ same. ap (is_reuse_of k) (ap (map.get F) same ∙ m.free))
    (λ same. ap (is_reuse_of k) (ap (map.get G) same ∙ m.here) ∙ reuse-change k b)
    (λ ne. ap (is_reuse_of k) (m.there q ne))
    i

-- the table follows the set with one more fact
pub reuses_on : (F G : FactSet) (d : Dot) (b : Body) (t u : BTreeSet ReuseKey) → OneMore F G d b
    → IsReuses F t → RangedReuses u
    → ((k : TokenId) (q : Dot)
    → is_listed_reuse u k q ≡ ((reuses_of k (change_in b) && is_at d q) || is_listed_reuse t k q))
    → IsReuses G u
reuses_on F G d b t u m i ranged l = record {
  listed = λ k q. l k q ∙ reused_on F G d b k q (is_listed_reuse t k q) m (i.listed k q);
  ranged = ranged;
}

-- dots that are newly listed are in range if their dot is
pub reuses_ranged : (t u : BTreeSet ReuseKey) (d : Dot) (n : TokenId → Bool) → IsDot d
    → RangedReuses t
    → ((k : TokenId) (q : Dot)
    → is_listed_reuse u k q ≡ ((n k && is_same_dot d q) || is_listed_reuse t k q))
    → RangedReuses u
reuses_ranged t u d n here before l k q h =
    elim (or_cases (n k && is_same_dot d q) (is_listed_reuse t k q) (sym (l k q) ∙ h)) [
      | inl new ↦ subst (λ (x : Dot). IsDot x)
          (same_dot-true d q (and_parts (n k) (is_same_dot d q) new).1) here
      | inr old ↦ before k q old
    ]

-- a table with the same keys is of the same facts
pub reuses_alike : (F : FactSet) (t u : BTreeSet ReuseKey) → IsReuses F t
    → ((e : ReuseKey) → contains reuse_cmp u e ≡ contains reuse_cmp t e) → IsReuses F u
reuses_alike F t u i same = record {
  listed = λ k q. same (reuse_key k q) ∙ i.listed k q;
  ranged = λ k q h. i.ranged k q (sym (same (reuse_key k q)) ∙ h);
}
