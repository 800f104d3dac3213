-- The consent that is found for a scope is the live consent with the lowest dot. Key results:
--   found_in, none_passes   a fact that is found among those of a set, or none
--   least_consent           the consent that is found is the lowest, or there is no consent
use Rattle.std.proofs.Common.{◌≡◌, ◌≢◌, Bool, true, T, not, ℕ, List, [], ◌∷◌, Option, Some}
use Rattle.std.proofs.Common.{None, refl, sym, ap, subst, ◌∙◌, inl, inr}
use Rattle.std.proofs.lemmas.Bool.{true≢false, cases_Bool, cond-true, cond-false, and_parts}
use Rattle.std.proofs.lemmas.Bool.{and_from}
use Rattle.std.proofs.lemmas.Cmp.{tied_itself}
use Rattle.std.specs.FinMap as map
use Rattle.std.specs.FinMap.Entries.{below_all}
use Rattle.std.specs.List as list
use Rattle.std.specs.Option.{option_map}
use Rattle.std.specs.Ordering.{eq_by_cmp, ordering_reverse}
use Rattle.std.specs.declared.cmp.Ordering.TheVariants.{Less}
use Rattle.tk_scope.specs.Scope.{tokens_of, is_within}
use Rattle.tk_scope.proofs.Within.{within_decides}
use Rattle.tk_handle.specs.declared.dot.Dot.{Dot}
use Rattle.tk_handle.specs.Dot.{dot_cmp, dot_cmp_total}
use Rattle.tk_fact.specs.declared.body.Body.{Body}
use Rattle.tk_fact.specs.declared.body.Body.TheVariants.{ConsentGiven}
use Rattle.tk_store.specs.FactSet.{FactSet, Facts, AllIn, dot_of}
use Rattle.tk_store.proofs.EntryLaws.{AllIn-entries}
use Rattle.tk_handle.proofs.TestLaws.{tied}
use Rattle.tk_ledger.specs.Clients.{is_withdrawn, gives, grants, consents, consent_for}
use Rattle.tk_ledger.specs.Clients.{IsConsentFor, IsLeastConsent}
use Rattle.tk_ledger.proofs.ClientLaws.{gives_parts, gives_from, unwithdrawn_of, not_withdrawn}
use Rattle.tk_ledger.proofs.KeySearchLaws.{equal_not_less, greater_not_less}
use Rattle.tk_handle.proofs.TestLaws.{both, lesser as less}
use Rattle.std.proofs.lemmas.Option.{none-some as none_is_not_some, same_Some as some_injective}

-- ---- one fact

-- a fact that passes the test is a consent for the scope
pub consents_sound : (F : FactSet) (client : Dot) (subject scope : List ℕ) (d : Dot) (b : Body)
    → map.get F d ≡ Some b → consents F client subject scope (d, b) ≡ true
    → IsConsentFor (map.get F) client subject scope d
consents_sound F client subject scope d (ConsentGiven c) held h =
    let p = and_parts (grants client subject scope (Some c)) (not (is_withdrawn F d)) h in
    let q = and_parts (gives client subject (Some c)) (is_within scope c.scope) p.0 in
    let r = gives_parts client subject c q.0 in
    record {
      live = record {
        consent = c;
        given = held;
        client_is = r.0;
        subject_is = r.1;
        unwithdrawn = unwithdrawn_of F d p.1;
      };
      includes = (within_decides (tokens_of scope) (tokens_of c.scope)).0 q.1;
    }
consents_sound F client subject scope d body held h = absurd (true≢false (sym h))

-- a consent for the scope passes the test
pub consents_complete : (F : FactSet) (client : Dot) (subject scope : List ℕ) (d : Dot)
    (x : IsConsentFor (map.get F) client subject scope d)
    → consents F client subject scope (d, ConsentGiven x.live.consent) ≡ true
consents_complete F client subject scope d x = and_from _ _
    (and_from _ _
    (gives_from client subject x.live.consent x.live.client_is x.live.subject_is)
    ((within_decides (tokens_of scope) (tokens_of x.live.consent.scope)).1 x.includes))
    (not_withdrawn F d x.live.unwithdrawn)

-- ---- the first in a list

-- a fact that is found in a list of held facts is held, and passes
pub found_in : (p : Dot × Body → Bool) (F : FactSet) (es : Facts) (f : Dot × Body) → AllIn F es
    → list.find p es ≡ Some f → (map.get F f.0 ≡ Some f.1) × (p f ≡ true)
found_in p F [] f all h = absurd (none_is_not_some f h)
found_in p F (e ∷ es) f all h = elim (cases_Bool (p e)) [
  | inl here ↦
      let same : e ≡ f =
      some_injective e f (sym (cond-true (p e) (Some e) (list.find p es) here) ∙ h) in
      subst (λ x. (map.get F x.0 ≡ Some x.1) × (p x ≡ true)) same (all.0, here)
  | inr more ↦ found_in p F es f all.1 (sym (cond-false (p e) (Some e) (list.find p es) more) ∙ h)
]

-- a dot that is below all of a list is below each dot found there
above_key : (d : Dot) (es : Facts) (q : Dot) (b : Body) → T (below_all dot_cmp d es)
    → map.find dot_cmp q es ≡ Some b → dot_cmp d q ≡ Less
above_key d [] q b low h = absurd (none_is_not_some b h)
above_key d (e ∷ es) q b low h = elim (cases_Bool (eq_by_cmp dot_cmp q e.0)) [
  | inl here ↦ ap (dot_cmp d) (tied q e.0 here) ∙ less _ (both _ _ low).0
  | inr more ↦ above_key d es q b (both _ _ low).1
      (sym (cond-false (eq_by_cmp dot_cmp q e.0) (Some e.1) (map.find dot_cmp q es) more) ∙ h)
]

-- a fact passes a test if an equal dot and an equal body do
passes_at : (p : Dot × Body → Bool) (e : Dot × Body) (q : Dot) (b : Body) → q ≡ e.0 → b ≡ e.1
    → p (q, b) ≡ true → p e ≡ true
passes_at p e q b i j h = rw (← i, ← j) h

-- the first fact that passes, in a list that rises, has the lowest dot of those that pass
first_least : (p : Dot × Body → Bool) (es : Facts) (f : Dot × Body) → T (map.is_sorted dot_cmp es)
    → list.find p es ≡ Some f → (q : Dot) (b : Body) → map.find dot_cmp q es ≡ Some b
    → p (q, b) ≡ true → dot_cmp q f.0 ≢ Less
first_least p [] f sorted h q b at passes = absurd (none_is_not_some f h)
first_least p (e ∷ es) f sorted h q b at passes = elim (cases_Bool (p e)) [
  | inl here ↦
      let same : e ≡ f =
      some_injective e f (sym (cond-true (p e) (Some e) (list.find p es) here) ∙ h) in
      subst (λ x. dot_cmp q x.0 ≢ Less) same (elim (cases_Bool (eq_by_cmp dot_cmp q e.0)) [
        | inl tie ↦ λ below. equal_not_less
            (sym (tied_itself dot_cmp_total e.0) ∙ ap (λ x. dot_cmp x e.0) (sym (tied q e.0 tie))
            ∙ below)
        | inr more ↦ λ below. greater_not_less
            (sym (dot_cmp_total.antisymm q e.0
            ∙ ap ordering_reverse
            (above_key e.0 es q b (both _ _ sorted).0
            (sym (cond-false (eq_by_cmp dot_cmp q e.0) (Some e.1) (map.find dot_cmp q es) more)
            ∙ at)))
            ∙ below)
      ])
  | inr fails ↦ elim (cases_Bool (eq_by_cmp dot_cmp q e.0)) [
    | inl tie ↦ absurd
        (true≢false
        (sym (passes_at p e q b (tied q e.0 tie)
        (sym (some_injective e.1 b
        (sym (cond-true (eq_by_cmp dot_cmp q e.0) (Some e.1) (map.find dot_cmp q es) tie) ∙ at)))
        passes)
        ∙ fails))
    | inr more ↦ first_least p es f (both _ _ sorted).1
        (sym (cond-false (p e) (Some e) (list.find p es) fails) ∙ h) q b
        (sym (cond-false (eq_by_cmp dot_cmp q e.0) (Some e.1) (map.find dot_cmp q es) more) ∙ at)
        passes
  ]
]

-- if no fact is found, no fact passes
pub none_passes : (p : Dot × Body → Bool) (es : Facts) → list.find p es ≡ None → (q : Dot)
    (b : Body)
    → map.find dot_cmp q es ≡ Some b → p (q, b) ≡ true → ⊥
none_passes p [] h q b at passes = none_is_not_some b at
none_passes p (e ∷ es) h q b at passes = elim (cases_Bool (p e)) [
  | inl here ↦ none_is_not_some e (sym (sym (cond-true (p e) (Some e) (list.find p es) here) ∙ h))
  | inr fails ↦ elim (cases_Bool (eq_by_cmp dot_cmp q e.0)) [
    | inl tie ↦ true≢false
        (sym (passes_at p e q b (tied q e.0 tie)
        (sym (some_injective e.1 b
        (sym (cond-true (eq_by_cmp dot_cmp q e.0) (Some e.1) (map.find dot_cmp q es) tie) ∙ at)))
        passes)
        ∙ fails)
    | inr more ↦ none_passes p es (sym (cond-false (p e) (Some e) (list.find p es) fails) ∙ h) q b
        (sym (cond-false (eq_by_cmp dot_cmp q e.0) (Some e.1) (map.find dot_cmp q es) more) ∙ at)
        passes
  ]
]

-- ---- the consent for a scope

-- for `least_consent`: by what the search through the facts finds
least_of : (F : FactSet) (client : Dot) (subject scope : List ℕ) (o : Option (Dot × Body))
    → list.find (consents F client subject scope) (map.entries F) ≡ o
    → IsLeastConsent (map.get F) client subject scope (option_map dot_of o)
least_of F client subject scope None h = λ d x.
    none_passes (consents F client subject scope) (map.entries F) h d (ConsentGiven x.live.consent)
    (sym (map.get-entries F d) ∙ x.live.given) (consents_complete F client subject scope d x)
least_of F client subject scope (Some f) h =
    let found =
    found_in (consents F client subject scope) F (map.entries F) f (AllIn-entries F) h in (
      consents_sound F client subject scope f.0 f.1 found.0 found.1,
      λ q x. first_least (consents F client subject scope) (map.entries F) f
          (map.entries_sorted F) h q (ConsentGiven x.live.consent)
          (sym (map.get-entries F q) ∙ x.live.given) (consents_complete F client subject scope q x),
    )

-- the consent that is found for a scope is the lowest live one that covers the scope, or there is
-- none
pub least_consent : (F : FactSet) (client : Dot) (subject scope : List ℕ)
    → IsLeastConsent (map.get F) client subject scope (consent_for F client subject scope)
least_consent F client subject scope = least_of F client subject scope
    (list.find (consents F client subject scope) (map.entries F)) refl
