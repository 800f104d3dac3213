-- The tests of clients and consents decide their relations. Key results:
--   is_retired-sound .. is_withdrawn-complete     a client is retired, a consent withdrawn
--   live_sound, live_complete                     a client is live
--   is_consent_of-sound, is_consent_of-complete   a subject gave a client a live consent at a dot
--   consent_sound, consent_complete               the consent of a code is live
--   retired_stays, withdrawn_stays                a retired client or withdrawn consent stays so
use Rattle.std.proofs.Common.{◌≡◌, ℕ, ◌&&◌, true, not, List, Option, Some, None, is_some, refl, sym}
use Rattle.std.proofs.Common.{ap, ◌∙◌}
use Rattle.std.proofs.lemmas.Bool.{true≢false, and_parts, and_from, not-true, not_from_false}
use Rattle.std.proofs.lemmas.Bool.{false_from_ne_true}
use Rattle.std.proofs.lemmas.Slice.Eq.{bytes_eq-Decides}
use Rattle.std.specs.Option.{option_and_then}
use Rattle.std.specs.FinMap as map
use Rattle.tk_handle.specs.declared.dot.Dot.{Dot}
use Rattle.tk_fact.specs.declared.body.Body.{Body}
use Rattle.tk_fact.specs.declared.body.Body.TheVariants.{ClientAdded, ClientRetired, ConsentGiven}
use Rattle.tk_fact.specs.declared.body.Body.TheVariants.{ConsentWithdrawn}
use Rattle.tk_fact.specs.declared.client_added.ClientAdded as added
use Rattle.tk_fact.specs.declared.client_retired.ClientRetired as retired
use Rattle.tk_fact.specs.declared.consent_given.ConsentGiven as given
use Rattle.tk_fact.specs.declared.consent_withdrawn.ConsentWithdrawn as withdrawn
use Rattle.tk_fact.specs.declared.code_issued.CodeIssued as issued
use Rattle.tk_store.specs.FactSet.{FactSet, IsSubset}
use Rattle.tk_store.proofs.EntryLaws.{Passing, any_fact-held, any_fact-of}
use Rattle.tk_ledger.specs.Bodies.{is_same_dot}
use Rattle.tk_ledger.specs.Clients.{added_in, client_at, retires, IsRetired, is_retired}
use Rattle.tk_ledger.specs.Clients.{IsLiveClient, is_live_client, given_in, consent_at, withdraws}
use Rattle.tk_ledger.specs.Clients.{IsWithdrawn, is_withdrawn, IsConsentOf, gives, is_consent_of}
use Rattle.tk_ledger.specs.Clients.{IsLiveConsent, is_live_consent}
use Rattle.tk_ledger.proofs.SameLaws.{same_dot-true, same_dot-itself}

-- ---- clients

-- a client that is found was added
added_at : (o : Option Body) (c : added.ClientAdded) → option_and_then added_in o ≡ Some c
    → o ≡ Some (ClientAdded c)
added_at None c h = absurd (nothing h)
  where
    nothing : ¬ (None ≡ Some c)
    nothing h = cc
added_at (Some (ClientAdded x)) c h = ap Some (ap ClientAdded (same h))
  where
    same : Some x ≡ Some c → x ≡ c
    same h = cc
added_at (Some body) c h = absurd (nothing h)
  where
    nothing : ¬ (None ≡ Some c)
    nothing h = cc

-- a fact that retires the client is a retirement of that client
retirement_in : (d : Dot) (b : Body) (q : Dot) → retires d (q, b) ≡ true
    → (r : retired.ClientRetired) × (b ≡ ClientRetired r) × (r.client ≡ d)
retirement_in d (ClientRetired r) q h = (r, refl, same_dot-true r.client d h)
retirement_in d body q h = absurd (true≢false (sym h))

-- a client that the test calls retired is retired
pub is_retired-sound : (F : FactSet) (d : Dot) → is_retired F d ≡ true → IsRetired (map.get F) d
is_retired-sound F d h =
    let f : Passing (retires d) F = any_fact-held (retires d) F h in
    let r : (r : retired.ClientRetired) × (f.body ≡ ClientRetired r) × (r.client ≡ d) =
    retirement_in d f.body f.dot f.passes in
    record { place = f.dot; retirement = r.0; held = f.held ∙ ap Some r.1; names = r.2 }

-- the test calls each retired client retired
pub is_retired-complete : (F : FactSet) (d : Dot) → IsRetired (map.get F) d → is_retired F d ≡ true
is_retired-complete F d r = any_fact-of (retires d) F r.place (ClientRetired r.retirement) r.held
    (ap (λ e. is_same_dot e d) r.names ∙ same_dot-itself d)

-- a client that was added, and that the test doesn't call retired, is live
live_of : (F : FactSet) (d : Dot) (o : Option added.ClientAdded) → client_at F d ≡ o
    → (is_some o && not (is_retired F d)) ≡ true → IsLiveClient (map.get F) d
live_of F d None at h = absurd (true≢false (sym h))
live_of F d (Some c) at h = record {
  client = c;
  added = added_at (map.get F d) c at;
  unretired = λ r. true≢false (sym (is_retired-complete F d r) ∙ not-true (is_retired F d) h);
}

-- a client that the test calls live is live
pub live_sound : (F : FactSet) (d : Dot) → is_live_client F d ≡ true → IsLiveClient (map.get F) d
live_sound F d h = live_of F d (client_at F d) refl h

-- the test calls each live client live
pub live_complete : (F : FactSet) (d : Dot) → IsLiveClient (map.get F) d → is_live_client F d ≡ true
live_complete F d live = and_from _ _
    (ap (λ o. is_some (option_and_then added_in o)) live.added)
    (not_from_false (is_retired F d)
    (false_from_ne_true (is_retired F d) (λ held. live.unretired (is_retired-sound F d held))))

-- a retirement keeps the client from being live in every greater set
pub retired_stays : (F G : FactSet) → IsSubset F G → (d : Dot) → IsRetired (map.get F) d
    → ¬ IsLiveClient (map.get G) d
retired_stays F G within d r live = live.unretired (record {
  place = r.place;
  retirement = r.retirement;
  held = within r.place (ClientRetired r.retirement) r.held;
  names = r.names;
})

-- ---- consents

-- a consent that is found was given
given_at : (o : Option Body) (c : given.ConsentGiven) → option_and_then given_in o ≡ Some c
    → o ≡ Some (ConsentGiven c)
given_at None c h = absurd (nothing h)
  where
    nothing : ¬ (None ≡ Some c)
    nothing h = cc
given_at (Some (ConsentGiven x)) c h = ap Some (ap ConsentGiven (same h))
  where
    same : Some x ≡ Some c → x ≡ c
    same h = cc
given_at (Some body) c h = absurd (nothing h)
  where
    nothing : ¬ (None ≡ Some c)
    nothing h = cc

-- a fact that withdraws the consent is a withdrawal of that consent
withdrawal_in : (d : Dot) (b : Body) (q : Dot) → withdraws d (q, b) ≡ true
    → (w : withdrawn.ConsentWithdrawn) × (b ≡ ConsentWithdrawn w) × (w.consent ≡ d)
withdrawal_in d (ConsentWithdrawn w) q h = (w, refl, same_dot-true w.consent d h)
withdrawal_in d body q h = absurd (true≢false (sym h))

-- a consent that the test calls withdrawn is withdrawn
pub is_withdrawn-sound : (F : FactSet) (d : Dot) → is_withdrawn F d ≡ true
    → IsWithdrawn (map.get F) d
is_withdrawn-sound F d h =
    let f : Passing (withdraws d) F = any_fact-held (withdraws d) F h in
    let w : (w : withdrawn.ConsentWithdrawn) × (f.body ≡ ConsentWithdrawn w) × (w.consent ≡ d) =
    withdrawal_in d f.body f.dot f.passes in
    record { place = f.dot; withdrawal = w.0; held = f.held ∙ ap Some w.1; names = w.2 }

-- the test calls each withdrawn consent withdrawn
pub is_withdrawn-complete : (F : FactSet) (d : Dot) → IsWithdrawn (map.get F) d
    → is_withdrawn F d ≡ true
is_withdrawn-complete F d w = any_fact-of (withdraws d) F w.place (ConsentWithdrawn w.withdrawal)
    w.held (ap (λ e. is_same_dot e d) w.names ∙ same_dot-itself d)

-- a consent that the test doesn't call withdrawn isn't withdrawn
pub unwithdrawn_of : (F : FactSet) (d : Dot) → not (is_withdrawn F d) ≡ true
    → ¬ IsWithdrawn (map.get F) d
unwithdrawn_of F d h w =
    true≢false (sym (is_withdrawn-complete F d w) ∙ not-true (is_withdrawn F d) h)

-- the test doesn't call a consent withdrawn that isn't
pub not_withdrawn : (F : FactSet) (d : Dot) → ¬ IsWithdrawn (map.get F) d
    → not (is_withdrawn F d) ≡ true
not_withdrawn F d none = not_from_false (is_withdrawn F d)
    (false_from_ne_true (is_withdrawn F d) (λ held. none (is_withdrawn-sound F d held)))

-- the subject that gave a consent, and the client that has it
pub gives_parts : (client : Dot) (subject : List ℕ) (c : given.ConsentGiven)
    → gives client subject (Some c) ≡ true → (c.client ≡ client) × (c.subject ≡ subject)
gives_parts client subject c h = let p = and_parts _ _ h in
    (same_dot-true c.client client p.0, (bytes_eq-Decides c.subject subject).0 p.1)

-- the test sees that a consent is to its client and from its subject
pub gives_from : (client : Dot) (subject : List ℕ) (c : given.ConsentGiven) → c.client ≡ client
    → c.subject ≡ subject → gives client subject (Some c) ≡ true
gives_from client subject c i j = and_from _ _
    (ap (λ d. is_same_dot d client) i ∙ same_dot-itself client)
    ((bytes_eq-Decides c.subject subject).1 j)

-- for `is_consent_of-sound`: by the consent that was given at the dot, if there is one
of_found : (F : FactSet) (client : Dot) (subject : List ℕ) (d : Dot) (o : Option given.ConsentGiven)
    → consent_at F d ≡ o → (gives client subject o && not (is_withdrawn F d)) ≡ true
    → IsConsentOf (map.get F) client subject d
of_found F client subject d None at h = absurd (true≢false (sym h))
of_found F client subject d (Some c) at h =
    let p = and_parts _ _ h in
    let q = gives_parts client subject c p.0 in
    record {
      consent = c;
      given = given_at (map.get F d) c at;
      client_is = q.0;
      subject_is = q.1;
      unwithdrawn = unwithdrawn_of F d p.1;
    }

-- a consent that the test finds, of the subject to the client, is one that isn't withdrawn
pub is_consent_of-sound : (F : FactSet) (client : Dot) (subject : List ℕ) (d : Dot)
    → is_consent_of F client subject d ≡ true → IsConsentOf (map.get F) client subject d
is_consent_of-sound F client subject d h = of_found F client subject d (consent_at F d) refl h

-- the test finds each consent of the subject to the client that isn't withdrawn
pub is_consent_of-complete : (F : FactSet) (client : Dot) (subject : List ℕ) (d : Dot)
    → IsConsentOf (map.get F) client subject d → is_consent_of F client subject d ≡ true
is_consent_of-complete F client subject d x = and_from _ _
    (ap (λ o. gives client subject (option_and_then given_in o)) x.given
    ∙ gives_from client subject x.consent x.client_is x.subject_is)
    (not_withdrawn F d x.unwithdrawn)

-- the consent of a code is live if the test says so
pub consent_sound : (F : FactSet) (code : issued.CodeIssued) → is_live_consent F code ≡ true
    → IsLiveConsent (map.get F) code
consent_sound F code h = is_consent_of-sound F code.client code.subject code.consent h

-- the test says so of each code whose consent is live
pub consent_complete : (F : FactSet) (code : issued.CodeIssued) → IsLiveConsent (map.get F) code
    → is_live_consent F code ≡ true
consent_complete F code live = is_consent_of-complete F code.client code.subject code.consent live

-- a withdrawal keeps the consent from being live in every greater set
pub withdrawn_stays : (F G : FactSet) → IsSubset F G → (code : issued.CodeIssued)
    → IsWithdrawn (map.get F) code.consent → ¬ IsLiveConsent (map.get G) code
withdrawn_stays F G within code w live = live.unwithdrawn (record {
  place = w.place;
  withdrawal = w.withdrawal;
  held = within w.place (ConsentWithdrawn w.withdrawal) w.held;
  names = w.names;
})
