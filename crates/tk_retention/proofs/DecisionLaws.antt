-- From the horizon on, a request is decided by a store as by the facts for which it stands. Key
-- results:
--   decision_stands   every request
--   region_stands     what a region prepares
use Rattle.std.proofs.Common.{◌≡◌, ◌⊎◌, inl, inr, ℕ, ◌≤◌, nat_lt, false, cond, List, refl, sym, ap}
use Rattle.std.proofs.Common.{subst, ◌∙◌, arith}
use Rattle.std.proofs.lemmas.Bool.Decides.{nat_tests}
use Rattle.tk_handle.specs.declared.dot.Dot.{Dot}
use Rattle.tk_handle.specs.declared.handle.Handle.{Handle}
use Rattle.tk_store.specs.FactSet.{FactSet}
use Rattle.tk_store.specs.StoreFields.{StoreFields, held_facts}
use Rattle.tk_store.specs.WholeStores.{whole_store}
use Rattle.tk_store.proofs.WholeStoreLaws.{held_whole_store}
use Rattle.tk_ledger.specs.Alike.{AnsweredAlike}
use Rattle.tk_ledger.specs.Status.{status_here}
use Rattle.tk_ledger.specs.Tokens.{is_revoked}
use Rattle.tk_ledger.specs.Views.{client_view}
use Rattle.tk_ledger.specs.declared.status.Status.{Status}
use Rattle.tk_message.specs.Caller.{caller_of}
use Rattle.tk_message.specs.Decision.{answered}
use Rattle.tk_message.specs.RequestFields.{RequestFields}
use Rattle.tk_message.specs.declared.decision.Decision.{Decision}
use Rattle.tk_message.specs.declared.place.Place.{Place}
use Rattle.tk_message.specs.declared.request.Endpoint.{Endpoint}
use Rattle.tk_message.specs.declared.request.Endpoint.TheVariants as endpoint
use Rattle.tk_authorize.specs.Administration.{administration_of}
use Rattle.tk_authorize.specs.Authorization.{authorization_of}
use Rattle.tk_authorize.specs.Listing.{listing_of}
use Rattle.tk_authorize.specs.SubjectListing.{subject_of}
use Rattle.tk_authorize.proofs.SameLaws.{authorizations_same, administrations_same, listings_same}
use Rattle.tk_authorize.proofs.SameLaws.{subjects_same}
use Rattle.tk_grant.specs.Judged as grants
use Rattle.tk_grant.proofs.AlikeLaws.{grants_alike}
use Rattle.tk_query.specs.Anew.{IsAnew}
use Rattle.tk_query.specs.Caller as queries
use Rattle.tk_query.proofs.AlikeLaws.{introspections_alike, revocations_alike}
use Rattle.tk_region.specs.Decision.{decision_by, decision_of}
use Rattle.tk_region.specs.RegionFields.{RegionFields, place_in}
use Rattle.tk_region.specs.Step.{early_in, prepared_by, prepared_of}
use Rattle.tk_retention.specs.Decides.{DecidesFor}
use Rattle.tk_retention.specs.StandsFor.{StandsFor, AreSound}
use Rattle.tk_retention.proofs.LastingLaws.{client_view_same, consent_view_same, consent_for_same}
use Rattle.tk_retention.proofs.LastingLaws.{signed_out_same, last_turn_same, is_set_same}
use Rattle.tk_retention.proofs.LastingLaws.{revoked_up, caller_same}
use Rattle.tk_retention.proofs.LoginStandsLaws.{subject_consents_same, subject_logins_same}
use Rattle.tk_retention.proofs.LoginStandsLaws.{logout_same}
use Rattle.tk_retention.proofs.EarlyRevocationLaws.{revoked_early}
use Rattle.tk_retention.proofs.StatusStandsLaws.{status_stands}
use Rattle.tk_retention.proofs.WholeStatus.{whole_status}

module _ (P : StoreFields) (U F : FactSet) (S : StandsFor P U F) (sound : AreSound U)
    (place : Place) (now : ℕ) (soon : P.horizon ≤ now) (words : List ℕ) where
  -- the facts that the store holds
  abbrev H : FactSet
  H = held_facts P

  -- each handle is answered alike by the store and by all facts
  alike : (h : Handle)
      → AnsweredAlike now h (status_here P now h) (status_here (whole_store F) now h)
  alike h = subst (λ (x : Status). AnsweredAlike now h (status_here P now h) x)
      (sym (whole_status F now h)) (status_stands P U F S sound now soon h)

  -- the store of all facts holds them
  back : held_facts (whole_store F) ≡ F
  back = held_whole_store F

  -- the sender of a request is the same by the store and by all facts
  caller_back : (names : List (List ℕ)) (request : RequestFields)
      → caller_of H names request ≡ caller_of (held_facts (whole_store F)) names request
  caller_back names request =
      caller_same P U F S names request ∙ ap (λ (G : FactSet). caller_of G names request) (sym back)

  -- a client is the same by the store and by all facts
  view_back : (d : Dot) → client_view H d ≡ client_view (held_facts (whole_store F)) d
  view_back d = client_view_same P U F S d ∙ ap (λ (G : FactSet). client_view G d) (sym back)

  -- an administration request is decided by the store as by all facts
  administered : (request : RequestFields)
      → administration_of H place now request
      ≡ administration_of (held_facts (whole_store F)) place now request
  administered request =
      administrations_same H F place now request (client_view_same P U F S)
      (consent_view_same P U F S) (signed_out_same P U F S)
      (logout_same P U F S sound now soon) (last_turn_same P U F S) (is_set_same P U F S)
      (consent_for_same P U F S)
      ∙ ap (λ (G : FactSet). administration_of G place now request) (sym back)

  -- the decision is equal, or that of a first revocation
  abbrev Decides : Endpoint → RequestFields → Decision → Type 0
  Decides e request d = (d ≡ decision_by e (whole_store F) place now words request)
      ⊎ ((e ≡ endpoint.Revoke) × IsAnew (whole_store F) place now request d)

  -- a revocation request is decided by the store as by all facts, or revokes anew
  revoked_alike : (request : RequestFields)
      → Decides endpoint.Revoke request (decision_by endpoint.Revoke P place now words request)
  revoked_alike request = elim (revocations_alike P (whole_store F) place now request alike
      (λ k digest client h.
      ap (λ (G : FactSet). is_revoked G k digest client) back
      ∙ revoked_up P U F S k digest client h)
      (λ h digest client other early.
      revoked_early P U F S sound now soon h digest client other early
      ∙ ap (λ (G : FactSet). is_revoked G h.id digest client) (sym back))
      view_back
      (caller_back queries.known_names request)) [
        | inl same ↦ inl same
        | inr anew ↦ inr (refl, anew)
      ]

  -- a request at each endpoint is decided by the store as by all facts
  by_endpoint : (e : Endpoint) (request : RequestFields)
      → Decides e request (decision_by e P place now words request)
  by_endpoint endpoint.Authorize request = inl (
      authorizations_same H F place now words request (client_view_same P U F S)
      (consent_for_same P U F S)
      ∙ ap (λ (G : FactSet). authorization_of G place now words request) (sym back))
  by_endpoint endpoint.Token request = inl
      (grants_alike P (whole_store F) place now words request alike view_back
      (caller_back grants.known_names request))
  by_endpoint endpoint.Introspect request =
      inl (ap answered
      (introspections_alike P (whole_store F) place.choices.refresh_seen now request alike view_back
      (caller_back queries.known_names request)))
  by_endpoint endpoint.Revoke request = revoked_alike request
  by_endpoint endpoint.AddClient request = inl (administered request)
  by_endpoint endpoint.ShowClient request = inl (administered request)
  by_endpoint endpoint.ListClients request = inl (
      listings_same H F request.params (client_view_same P U F S)
      ∙ ap (λ (G : FactSet). listing_of G request.params) (sym back))
  by_endpoint endpoint.Retire request = inl (administered request)
  by_endpoint endpoint.ChangeSecret request = inl (administered request)
  by_endpoint endpoint.Consent request = inl (administered request)
  by_endpoint endpoint.Withdraw request = inl (administered request)
  by_endpoint endpoint.SignOut request = inl (administered request)
  by_endpoint endpoint.ShowSubject request = inl (
      subjects_same H F now request.params (subject_consents_same P U F S)
      (subject_logins_same P U F S sound now soon) (signed_out_same P U F S)
      ∙ ap (λ (G : FactSet). subject_of G now request.params) (sym back))
  by_endpoint endpoint.Logout request = inl (administered request)

-- from the horizon on, each request is decided by the store as by the facts for which it stands
pub decision_stands : (P : StoreFields) (U F : FactSet) → StandsFor P U F → AreSound U
    → (place : Place) (now : ℕ) → P.horizon ≤ now → (words : List ℕ) (request : RequestFields)
    → DecidesFor F place now words request (decision_of P place now words request)
decision_stands P U F S sound place now soon words request =
    by_endpoint P U F S sound place now soon words request.endpoint request

-- a moment from the horizon on isn't before it
pub never_before : (now horizon : ℕ) → horizon ≤ now → nat_lt now horizon ≡ false
never_before now horizon le = grind (arith, nat_tests)

-- from the horizon on, what a region prepares of a request is prepared of a decision for the facts
-- for which it stands
pub region_stands : (r : RegionFields) (U F : FactSet) → StandsFor r.facts U F → AreSound U
    → (now : ℕ) → r.facts.horizon ≤ now → (words : List ℕ) (request : RequestFields)
    → (d : Decision) × DecidesFor F (place_in r) now words request d
    × (prepared_of r now words request ≡ prepared_by r.settings.cap (place_in r) d)
region_stands r U F S sound now soon words request = (
  decision_of r.facts (place_in r) now words request,
  decision_stands r.facts U F S sound (place_in r) now soon words request,
  ap (λ t. cond t (early_in (place_in r))
      (prepared_by r.settings.cap (place_in r)
      (decision_of r.facts (place_in r) now words request)))
      (never_before now r.facts.horizon soon),
)
