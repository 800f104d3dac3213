-- Walks over what a subject has: live consents, and logins. Key results:
--   consents_same, logins_same   two sets that show the same at each dot
--   walk_consents, walk_logins   what is above a dot is what is shown at the keys above it
use Rattle.std.proofs.Common.{◌≡◌, ℕ, true, false, ◌&&◌, not, cond, List, Option, Some, None}
use Rattle.std.proofs.Common.{◌⊎◌, inl, inr, refl, sym, ap, ◌∙◌}
use Rattle.std.proofs.lemmas.Bool.{true≢false, and_parts, and_from, cond-false}
use Rattle.std.proofs.lemmas.Bool.{cases_Bool}
use Rattle.std.proofs.lemmas.Slice.Eq.{bytes_eq-Decides}
use Rattle.std.specs.BTreeSet.{BTreeSet}
use Rattle.std.specs.FinMap as map
use Rattle.std.specs.List.{filter_map}
use Rattle.std.specs.List.Sorted.{IsStrictlySortedBy}
use Rattle.std.specs.Option.{option_and_then, option_map}
use Rattle.std.specs.Str.{bytes_eq}
use Rattle.sha2.specs.Sha256.{sha256}
use Rattle.tk_handle.specs.declared.dot.Dot.{Dot}
use Rattle.tk_handle.specs.Dot.{dot_cmp, dot_cmp_total, least_dot, greatest_dot}
use Rattle.tk_fact.specs.declared.body.Body.{Body}
use Rattle.tk_fact.specs.declared.code_issued.CodeIssued as issued
use Rattle.tk_fact.specs.declared.consent_given.ConsentGiven as given
use Rattle.tk_store.specs.FactSet.{FactSet}
use Rattle.tk_store.specs.Walk.{above}
use Rattle.tk_store.proofs.PutLaws.{none_is_not_some}
use Rattle.tk_ledger.specs.Bodies.{is_same_dot}
use Rattle.tk_ledger.specs.Changes.{digest_prefix}
use Rattle.tk_ledger.specs.Clients.{given_in, consent_at, is_withdrawn}
use Rattle.tk_ledger.specs.Index.{consent_cmp, consents_above, IsConsents, is_from}
use Rattle.tk_ledger.specs.Logins.{login_view}
use Rattle.tk_ledger.specs.SubjectTables.{login_cmp, login_key, logins_above, IsLogins}
use Rattle.tk_ledger.specs.SubjectWalk.{seen, live_by, consent_of, consents_of, is_issued_to}
use Rattle.tk_ledger.specs.SubjectWalk.{login_by, logins_of}
use Rattle.tk_ledger.specs.Tokens.{issued_in, issued_at}
use Rattle.tk_ledger.specs.ViewFields.{ConsentFields, LoginFields}
use Rattle.tk_ledger.specs.declared.consent_keys.ConsentKey.{ConsentKey}
use Rattle.tk_ledger.specs.declared.subject_keys.LoginKey.{LoginKey}
use Rattle.tk_ledger.proofs.DotWalkLaws.{placed, OnFacts, shown_same}
use Rattle.tk_ledger.proofs.KeySearchLaws.{among}
use Rattle.tk_ledger.proofs.KeyWalkLaws.{walk_keys}
use Rattle.tk_ledger.proofs.LoginKeyLaws.{logins_total, login_same, NoTail, tail_cmp, tails_total}
use Rattle.tk_ledger.proofs.LoginKeyLaws.{login_at, no_tail, login_span, are_logins, login_kept}
use Rattle.tk_ledger.proofs.SameLaws.{same_dot-itself}
use Rattle.tk_ledger.proofs.SpanLaws.{consents_total, key_same, key_at, consent_span, are_consents}

-- ---- consents

-- no consent is where no fact is
pub consent_on : (F : FactSet) (subject : List ℕ) → OnFacts F (consent_of F subject)
consent_on F subject q h = ap (λ (o : Option Body).
    live_by subject (option_map (λ (c : given.ConsentGiven). record {
      client = c.client;
      subject = c.subject;
      scope = c.scope;
      live = not (is_withdrawn F q);
    }) (option_and_then given_in o))) h

-- two sets that show the same consent of a subject at each dot show the same consents
pub consents_same : (F G : FactSet) (subject : List ℕ)
    → ((d : Dot) → consent_of F subject d ≡ consent_of G subject d)
    → consents_of F subject ≡ consents_of G subject
consents_same F G subject views = shown_same F G (consent_of F subject) (consent_of G subject)
    (consent_on F subject) (consent_on G subject) views

-- a consent that is live by the subject was given by the subject and is not withdrawn
live_parts : (subject : List ℕ) (c x : ConsentFields) → live_by subject (Some c) ≡ Some x
    → (c.live && bytes_eq c.subject subject) ≡ true
live_parts subject c x h = elim (cases_Bool (c.live && bytes_eq c.subject subject)) [
  | inl here ↦ here
  | inr left ↦ absurd
      (none_is_not_some x
      (sym (cond-false (c.live && bytes_eq c.subject subject) (Some c) None left) ∙ h))
]

-- the live consents of the subject are listed
consent_listed : (F : FactSet) (t : BTreeSet ConsentKey) → IsConsents F t → (subject : List ℕ)
    (q : Dot) (x : ConsentFields)
    → consent_of F subject q ≡ Some x
    → (c : Dot) × (among consent_cmp (key_at (sha256 subject) q c) t.keys ≡ true)
consent_listed F t i subject q x h = by_consent (consent_at F q) refl
    (sym (ap (λ (o : Option given.ConsentGiven). live_by subject (shown o)) refl) ∙ h)
  where
    shown : Option given.ConsentGiven → Option ConsentFields
    shown o = option_map (λ (c : given.ConsentGiven). record {
      client = c.client;
      subject = c.subject;
      scope = c.scope;
      live = not (is_withdrawn F q);
    }) o

    by_consent : (o : Option given.ConsentGiven) → consent_at F q ≡ o
        → live_by subject (shown o) ≡ Some x
        → (c : Dot) × (among consent_cmp (key_at (sha256 subject) q c) t.keys ≡ true)
    by_consent None at is = absurd (none_is_not_some x is)
    by_consent (Some c) at is =
        let p = live_parts subject (record {
          client = c.client;
          subject = c.subject;
          scope = c.scope;
          live = not (is_withdrawn F q);
        }) x is in
        let both = and_parts (not (is_withdrawn F q)) (bytes_eq c.subject subject) p in (
          c.client,
          i.listed c.client (sha256 subject) q
              ∙ and_from (is_from c.client (sha256 subject) (consent_at F q))
              (not (is_withdrawn F q))
              (ap (is_from c.client (sha256 subject)) at
              ∙ and_from (is_same_dot c.client c.client)
              (bytes_eq (sha256 c.subject) (sha256 subject))
              (same_dot-itself c.client)
              ((bytes_eq-Decides (sha256 c.subject) (sha256 subject)).1
              (ap sha256 ((bytes_eq-Decides c.subject subject).0 both.1))))
              both.0,
        )

-- the live consents of the subject above a dot are those that are shown at the keys above it
pub walk_consents : (F : FactSet) (t : BTreeSet ConsentKey) → IsConsents F t
    → IsStrictlySortedBy consent_cmp t.keys → (subject : List ℕ) (a : Option Dot)
    → filter_map (seen (consent_of F subject))
    (placed (λ k. k.consent) (consents_above t (sha256 subject) a))
    ≡ above (consents_of F subject) a
walk_consents F t i sorted subject a =
    walk_keys consent_cmp consents_total key_same (key_at (sha256 subject)) (λ k. k.consent)
    (λ k. k.client) dot_cmp dot_cmp_total least_dot greatest_dot (consent_span (sha256 subject))
    t.keys (are_consents F t i (sha256 subject)) a F (consent_of F subject) (consent_on F subject)
    (consent_listed F t i subject) sorted

-- ---- logins

-- no login is where no fact is
pub login_on : (F : FactSet) (now : ℕ) (subject : List ℕ) → OnFacts F (login_by F now subject)
login_on F now subject q h = ap (λ (o : Option Body).
    cond (is_issued_to subject (option_and_then issued_in o)) (login_view F now q) None) h

-- two sets that show the same login of a subject at each dot show the same logins
pub logins_same : (F G : FactSet) (now : ℕ) (subject : List ℕ)
    → ((d : Dot) → login_by F now subject d ≡ login_by G now subject d)
    → logins_of F now subject ≡ logins_of G now subject
logins_same F G now subject views = shown_same F G (login_by F now subject) (login_by G now subject)
    (login_on F now subject) (login_on G now subject) views

-- the logins of the subject are listed
login_listed : (F : FactSet) (t : BTreeSet LoginKey) → IsLogins F t → (now : ℕ) (subject : List ℕ)
    (q : Dot) (x : LoginFields)
    → login_by F now subject q ≡ Some x
    → (n : NoTail) × (among login_cmp (login_at (digest_prefix (sha256 subject)) q n) t.keys ≡ true)
login_listed F t i now subject q x h = by_code (issued_at (map.get F) q) refl
    (cases_Bool (is_issued_to subject (issued_at (map.get F) q)))
  where
    by_code : (o : Option issued.CodeIssued) → issued_at (map.get F) q ≡ o
        → (is_issued_to subject (issued_at (map.get F) q) ≡ true)
        ⊎ (is_issued_to subject (issued_at (map.get F) q) ≡ false)
        → (n : NoTail)
        × (among login_cmp (login_at (digest_prefix (sha256 subject)) q n) t.keys ≡ true)
    by_code o at (inr other) = absurd
        (none_is_not_some x
        (sym (cond-false (is_issued_to subject (issued_at (map.get F) q)) (login_view F now q) None
        other)
        ∙ h))
    by_code None at (inl to) =
        absurd (true≢false (sym to ∙ ap (is_issued_to subject) at))
    by_code (Some code) at (inl to) = (
      tt,
      ap (λ s. among login_cmp (login_key (digest_prefix (sha256 s)) q) t.keys)
          (sym ((bytes_eq-Decides code.subject subject).0
          (sym (ap (is_issued_to subject) at) ∙ to)))
          ∙ login_kept F t q code i at,
    )

-- the logins of the subject above a dot are those that are shown at the keys above it. Other keys
-- under the prefix show none
pub walk_logins : (F : FactSet) (t : BTreeSet LoginKey) → IsLogins F t
    → IsStrictlySortedBy login_cmp t.keys → (now : ℕ) (subject : List ℕ) (a : Option Dot)
    → filter_map (seen (login_by F now subject))
    (placed (λ k. k.code) (logins_above t (digest_prefix (sha256 subject)) a))
    ≡ above (logins_of F now subject) a
walk_logins F t i sorted now subject a =
    let prefix = digest_prefix (sha256 subject) in
    walk_keys login_cmp logins_total login_same (login_at prefix) (λ k. k.code) no_tail tail_cmp
    tails_total tt tt (login_span prefix) t.keys (are_logins F t i prefix) a F
    (login_by F now subject) (login_on F now subject) (login_listed F t i now subject) sorted
