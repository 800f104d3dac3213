-- The first consent to a client among the keys of a subject's consents is the one for the scope.
-- Key results:
--   consent_span            the keys of a subject's consents are in the order of their dots
--   span_forward            the span above a dot runs forward
--   are_consents            the keys are in range, and a consent has one client
--   first_found, first_is   the first listed consent that covers the scope is the lowest live one
use Rattle.std.proofs.Common.{◌≡◌, ℕ, Bool, true, ◌&&◌, not, List, Option, Some, None, refl, sym}
use Rattle.std.proofs.Common.{ap, subst, ◌∙◌}
use Rattle.std.proofs.lemmas.Bool.{true≢false, and_parts, and_from}
use Rattle.std.proofs.lemmas.Cmp.{on_total, then_total, tied_itself, nat_list_cmp_total}
use Rattle.std.proofs.lemmas.Map.Lookups.{exact_bytes}
use Rattle.std.proofs.lemmas.Slice.Eq.{bytes_eq-Decides}
use Rattle.std.specs.BTreeMap.Range.{range_contains, IsLeBy, IsLtBy}
use Rattle.std.specs.BTreeSet.{BTreeSet}
use Rattle.std.specs.Cmp.{IsTotalOrder}
use Rattle.std.specs.Cmp.Lexicographic.{slice_cmp}
use Rattle.std.specs.FinMap as map
use Rattle.std.specs.List.{find}
use Rattle.std.specs.List.Sorted.{IsStrictlySortedBy}
use Rattle.std.specs.Option.{option_and_then, option_map}
use Rattle.std.specs.Ordering.{nat_cmp, eq_by_cmp, ordering_then, ordering_reverse, is_eq}
use Rattle.std.specs.Ordering.{is_le}
use Rattle.std.specs.Str.{bytes_eq}
use Rattle.std.specs.Range.Bound.{IsForward}
use Rattle.std.specs.declared.cmp.Ordering.{Ordering}
use Rattle.std.specs.declared.cmp.Ordering.TheVariants.{Less, Equal, Greater}
use Rattle.std.specs.declared.ops.Bound.{Bound}
use Rattle.std.specs.declared.ops.Bound.TheVariants.{Included}
use Rattle.sha2.specs.Sha256.{sha256}
use Rattle.tk_handle.specs.declared.dot.Dot.{Dot}
use Rattle.tk_handle.specs.Dot.{IsDot, dot_cmp, dot_cmp_total, least_dot, greatest_dot}
use Rattle.tk_handle.proofs.SpanLaws.{between, from_first, to_last}
use Rattle.tk_fact.specs.declared.body.Body.{Body}
use Rattle.tk_fact.specs.declared.consent_given.ConsentGiven as given
use Rattle.tk_store.specs.FactSet.{FactSet}
use Rattle.tk_handle.proofs.TestLaws.{tied}
use Rattle.tk_ledger.specs.Bodies.{is_same_dot}
use Rattle.tk_ledger.specs.Clients.{given_in, consent_at, is_withdrawn, grants, covers, consent_for}
use Rattle.tk_ledger.specs.Clients.{IsConsentFor, IsLeastConsent}
use Rattle.tk_ledger.specs.Index.{consent_cmp, consent_key, consent_start, consents_above, is_from}
use Rattle.tk_ledger.specs.Index.{is_listed, IsConsents}
use Rattle.tk_ledger.specs.declared.consent_keys.ConsentKey.{ConsentKey}
use Rattle.tk_ledger.proofs.ClientLaws.{not_withdrawn}
use Rattle.tk_ledger.proofs.ConsentLaws.{consents_sound, consents_complete, least_consent}
use Rattle.tk_ledger.proofs.KeyLaws.{consent_tied}
use Rattle.tk_ledger.proofs.KeyWalkLaws.{IsSpan, AreKeys, inside}
use Rattle.tk_ledger.proofs.KeyWalkLaws.{span_forward as forward}
use Rattle.tk_ledger.proofs.KeySearchLaws.{among, found_passes, none_passes, first_least}
use Rattle.tk_ledger.proofs.SameLaws.{same_dot-true, same_dot-itself}

-- ---- the order of keys

-- the order of consent keys is total
pub consents_total : IsTotalOrder consent_cmp
consents_total = then_total (on_total (λ k. k.subject) nat_list_cmp_total)
    (then_total (on_total (λ k. k.consent) dot_cmp_total) (on_total (λ k. k.client) dot_cmp_total))

-- consent keys with equal parts are equal
key_by : (a b : ConsentKey) → a.client ≡ b.client → a.subject ≡ b.subject → a.consent ≡ b.consent
    → a ≡ b
key_by a b h i j = λ x. record { subject = i x; consent = j x; client = h x }

-- keys that tie are equal
pub key_same : (a b : ConsentKey) → eq_by_cmp consent_cmp a b ≡ true → a ≡ b
key_same a b h =
    let p = and_parts _ _
    (sym (consent_tied a.client b.client a.subject b.subject a.consent b.consent) ∙ h) in
    let q = and_parts _ _ p.1 in
    key_by a b (same_dot-true a.client b.client p.0) ((bytes_eq-Decides a.subject b.subject).0 q.0)
    (same_dot-true a.consent b.consent q.1)

-- the key of a subject's consent, by its dot and its client
abbrev pub key_at : List ℕ → Dot → Dot → ConsentKey
key_at subject d client = consent_key client subject d

-- the keys of one subject are in the order of their dots
pub consent_span : (subject : List ℕ)
    → IsSpan consent_cmp (key_at subject) (λ k. k.consent) (λ k. k.client) dot_cmp
consent_span subject = record {
  order = λ d e t u.
      ap (λ o. ordering_then o (ordering_then (dot_cmp d e) (dot_cmp t u)))
      (tied_itself nat_list_cmp_total subject);
  placed = λ d t. refl;
  between = λ k d e t u above below. key_by k (key_at subject k.consent k.client) refl
      (sym (exact_bytes subject k.subject
      (between (slice_cmp nat_cmp subject k.subject) _ _ above below)))
      refl;
}

-- the least dot and the greatest dot are at most the greatest
max_client : (is_le (dot_cmp least_dot greatest_dot) ≡ true)
    × (is_le (dot_cmp greatest_dot greatest_dot) ≡ true)
max_client = (refl, refl)

-- the span above a dot runs forward
pub span_forward : (subject : List ℕ) (after : Option Dot) (first : Bound ConsentKey)
    (last : ConsentKey)
    → first ≡ consent_start subject after → last ≡ consent_key greatest_dot subject greatest_dot
    → ((d : Dot) → after ≡ Some d → IsDot d)
    → IsForward (IsLeBy consent_cmp) (IsLtBy consent_cmp) first (Included last)
span_forward subject None first last is end ranged =
    subst (λ (b : Bound ConsentKey).
    IsForward (IsLeBy consent_cmp) (IsLtBy consent_cmp) b (Included last)) (sym is)
    (subst (λ (k : ConsentKey). IsForward (IsLeBy consent_cmp) (IsLtBy consent_cmp)
    (consent_start subject None) (Included k)) (sym end)
    (forward consent_cmp consents_total key_same (key_at subject) (λ k. k.consent) (λ k. k.client)
    dot_cmp dot_cmp_total least_dot greatest_dot (consent_span subject) None max_client tt))
span_forward subject (Some d) first last is end ranged =
    subst (λ (b : Bound ConsentKey).
    IsForward (IsLeBy consent_cmp) (IsLtBy consent_cmp) b (Included last)) (sym is)
    (subst (λ (k : ConsentKey). IsForward (IsLeBy consent_cmp) (IsLtBy consent_cmp)
    (consent_start subject (Some d)) (Included k)) (sym end)
    (forward consent_cmp consents_total key_same (key_at subject) (λ k. k.consent) (λ k. k.client)
    dot_cmp dot_cmp_total least_dot greatest_dot (consent_span subject) (Some d) max_client
    (ranged d refl)))

-- the keys of a subject are in range, and a consent has one client
pub are_consents : (F : FactSet) (t : BTreeSet ConsentKey) → IsConsents F t → (subject : List ℕ)
    → AreKeys consent_cmp consents_total key_same (key_at subject) (λ k. k.consent)
    (λ k. k.client) dot_cmp dot_cmp_total least_dot greatest_dot (consent_span subject) t.keys
are_consents F t i subject = record {
  ranged = λ d c at. (let r = i.ranged c subject d at in
      (r.0, (from_first c r.1, to_last c r.1)));
  single = λ d c e at also. one (consent_at F d) c e (gave d c at) (gave d e also);
}
  where
    gave : (d c : Dot) → is_listed t c subject d ≡ true → is_from c subject (consent_at F d) ≡ true
    gave d c at = (and_parts (is_from c subject (consent_at F d)) (not (is_withdrawn F d))
        (sym (i.listed c subject d) ∙ at)).0

    one : (o : Option given.ConsentGiven) (c e : Dot) → is_from c subject o ≡ true
        → is_from e subject o ≡ true → c ≡ e
    one None c e h i = absurd (true≢false (sym h))
    one (Some x) c e h i =
        sym (same_dot-true x.client c (and_parts _ _ h).0)
        ∙ same_dot-true x.client e (and_parts _ _ i).0

-- the key of each consent of the subject is in the span of all
in_span : (F : FactSet) (t : BTreeSet ConsentKey) → IsConsents F t → (client : Dot)
    (subject : List ℕ) (q : Dot) → is_listed t client subject q ≡ true
    → range_contains consent_cmp (consent_start subject None)
    (Included (consent_key greatest_dot subject greatest_dot)) (consent_key client subject q)
    ≡ true
in_span F t i client subject q at =
    let r = i.ranged client subject q at in
    inside consent_cmp consents_total key_same (key_at subject) (λ k. k.consent) (λ k. k.client)
    dot_cmp dot_cmp_total least_dot greatest_dot (consent_span subject) None q client r.0
    (from_first client r.1, to_last client r.1) refl

-- ---- one consent

-- a consent that covers the scope and isn't withdrawn, by the tests, is a live one for it
live_sound : (F : FactSet) (client : Dot) (subject scope : List ℕ) (d : Dot)
    → (covers F client subject scope d && not (is_withdrawn F d)) ≡ true
    → IsConsentFor (map.get F) client subject scope d
live_sound F client subject scope d h = by_body (map.get F d) refl h
  where
    by_body : (o : Option Body) → map.get F d ≡ o
        → (grants client subject scope (option_and_then given_in o) && not (is_withdrawn F d))
        ≡ true
        → IsConsentFor (map.get F) client subject scope d
    by_body None at h = absurd (true≢false (sym h))
    by_body (Some b) at h = consents_sound F client subject scope d b at h

-- a listed consent is live
covers_sound : (F : FactSet) (t : BTreeSet ConsentKey) (client : Dot) (subject scope : List ℕ)
    (e : ConsentKey)
    → IsConsents F t → among consent_cmp e t.keys ≡ true
    → covers F client subject scope e.consent ≡ true
    → IsConsentFor (map.get F) client subject scope e.consent
covers_sound F t client subject scope e i at h = live_sound F client subject scope e.consent
    (and_from _ _ h
    (and_parts (is_from e.client e.subject (consent_at F e.consent))
    (not (is_withdrawn F e.consent)) (sym (i.listed e.client e.subject e.consent) ∙ at)).1)

-- a live consent for the scope covers the scope, by the test
covers_complete : (F : FactSet) (client : Dot) (subject scope : List ℕ) (d : Dot)
    → IsConsentFor (map.get F) client subject scope d → covers F client subject scope d ≡ true
covers_complete F client subject scope d x =
    ap (λ (o : Option Body). grants client subject scope (option_and_then given_in o)) x.live.given
    ∙ (and_parts (grants client subject scope (Some x.live.consent)) (not (is_withdrawn F d))
    (consents_complete F client subject scope d x)).0

-- a live consent is listed under its client and the digest of its subject
listed_of : (F : FactSet) (t : BTreeSet ConsentKey) (client : Dot) (subject scope : List ℕ)
    (d : Dot)
    → IsConsents F t → IsConsentFor (map.get F) client subject scope d
    → is_listed t client (sha256 subject) d ≡ true
listed_of F t client subject scope d i x =
    i.listed client (sha256 subject) d
    ∙ and_from _ _
    (ap (λ (o : Option Body). is_from client (sha256 subject) (option_and_then given_in o))
    x.live.given
    ∙ and_from _ _
    (ap (λ (e : Dot). is_same_dot e client) x.live.client_is ∙ same_dot-itself client)
    ((bytes_eq-Decides (sha256 x.live.consent.subject) (sha256 subject)).1
    (ap sha256 x.live.subject_is)))
    (not_withdrawn F d x.live.unwithdrawn)

-- a key whose consent covers the scope is that of the client and the digest of the subject
key_of_found : (F : FactSet) (t : BTreeSet ConsentKey) (client : Dot) (subject scope : List ℕ)
    (e : ConsentKey)
    → IsConsents F t → among consent_cmp e t.keys ≡ true
    → IsConsentFor (map.get F) client subject scope e.consent
    → e ≡ consent_key client (sha256 subject) e.consent
key_of_found F t client subject scope e i at x =
    let from : is_from e.client e.subject (Some x.live.consent) ≡ true =
    sym (ap (λ (o : Option Body). is_from e.client e.subject (option_and_then given_in o))
    x.live.given)
    ∙ (and_parts (is_from e.client e.subject (consent_at F e.consent))
    (not (is_withdrawn F e.consent)) (sym (i.listed e.client e.subject e.consent) ∙ at)).0 in
    let p = and_parts (is_same_dot x.live.consent.client e.client)
    (bytes_eq (sha256 x.live.consent.subject) e.subject) from in
    key_by e (consent_key client (sha256 subject) e.consent)
    (sym (same_dot-true x.live.consent.client e.client p.0) ∙ x.live.client_is)
    (sym ((bytes_eq-Decides (sha256 x.live.consent.subject) e.subject).0 p.1)
    ∙ ap sha256 x.live.subject_is)
    refl

-- ---- the consent for a scope

-- a key is one of the client whose consent covers the scope, by the test
abbrev covering : FactSet → Dot → List ℕ → List ℕ → ConsentKey → Bool
covering F client subject scope k =
    is_same_dot k.client client && covers F client subject scope k.consent

-- the key of a live consent for the scope is one that covers the scope, by the test
covering_key : (F : FactSet) (client : Dot) (subject scope : List ℕ) (d : Dot)
    → IsConsentFor (map.get F) client subject scope d
    → covering F client subject scope (consent_key client (sha256 subject) d) ≡ true
covering_key F client subject scope d x = and_from (is_same_dot client client)
    (covers F client subject scope d) (same_dot-itself client)
    (covers_complete F client subject scope d x)

-- the first listed consent that covers the scope is the lowest live one
pub first_found : (F : FactSet) (t : BTreeSet ConsentKey) (client : Dot) (subject scope : List ℕ)
    (o : Option ConsentKey)
    → IsConsents F t → IsStrictlySortedBy consent_cmp t.keys
    → find (covering F client subject scope) (consents_above t (sha256 subject) None) ≡ o
    → IsLeastConsent (map.get F) client subject scope (option_map (λ k. k.consent) o)
first_found F t client subject scope None i sorted h = λ d x.
    let at = listed_of F t client subject scope d i x in
    none_passes consent_cmp consents_total key_same (covering F client subject scope) _ t.keys h
    (consent_key client (sha256 subject) d) at (in_span F t i client (sha256 subject) d at)
    (covering_key F client subject scope d x)
first_found F t client subject scope (Some e) i sorted h =
    let found = found_passes consent_cmp consents_total key_same (covering F client subject scope) _
    t.keys e h in
    let both = and_parts (is_same_dot e.client client) (covers F client subject scope e.consent)
    found.0 in
    let here = covers_sound F t client subject scope e i found.2 both.1 in (
      here,
      λ q x below. (let at = listed_of F t client subject scope q i x in
          first_least consent_cmp consents_total key_same (covering F client subject scope) _ t.keys
          sorted e h (consent_key client (sha256 subject) q) at
          (in_span F t i client (sha256 subject) q at)
          (covering_key F client subject scope q x)
          (ap (consent_cmp (consent_key client (sha256 subject) q))
          (key_of_found F t client subject scope e i found.2 here)
          ∙ (consent_span (sha256 subject)).order q e.consent client client
          ∙ ap (λ o. ordering_then o (dot_cmp client client)) below)),
    )

-- there is at most one lowest consent
least_one : (F : FactSet) (client : Dot) (subject scope : List ℕ) (x y : Option Dot)
    → IsLeastConsent (map.get F) client subject scope x
    → IsLeastConsent (map.get F) client subject scope y → x ≡ y
least_one F client subject scope None None h i = refl
least_one F client subject scope None (Some e) h i = absurd (h e i.0)
least_one F client subject scope (Some d) None h i = absurd (i d h.0)
least_one F client subject scope (Some d) (Some e) h i =
    ap (λ (q : Dot). Some q) (by_order (dot_cmp d e) refl)
  where
    by_order : (o : Ordering) → dot_cmp d e ≡ o → d ≡ e
    by_order Less at = absurd (i.1 d h.0 at)
    by_order Equal at = tied d e (ap is_eq at)
    by_order Greater at = absurd (h.1 e i.0 (dot_cmp_total.antisymm e d ∙ ap ordering_reverse at))

-- the lowest live consent that covers the scope is the one that is found
pub first_is : (F : FactSet) (client : Dot) (subject scope : List ℕ) (x : Option Dot)
    → IsLeastConsent (map.get F) client subject scope x → x ≡ consent_for F client subject scope
first_is F client subject scope x h = least_one F client subject scope x
    (consent_for F client subject scope) h (least_consent F client subject scope)
