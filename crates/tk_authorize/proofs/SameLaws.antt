-- Authorization and administration requests are decided alike by two sets that say the same of
-- clients and their secrets, consents, sign-outs and logins. Key results:
--   authorizations_same    the decisions of authorization requests
--   administrations_same   the decisions of administration requests
--   listings_same          the pages of clients
--   subjects_same          the pages of what subjects have
use Rattle.std.proofs.Common.{◌≡◌, ◌==◌, ◌&&◌, ◌||◌, ℕ, cond, List, codes, Option, None, Some}
use Rattle.std.proofs.Common.{Result, Ok, Err, refl, ap, ◌∙◌}
use Rattle.std.specs.FinMap as map
use Rattle.std.specs.Str.{bytes_eq}
use Rattle.tk_handle.specs.ClientId.{client_in}
use Rattle.tk_handle.specs.ConsentId.{consent_in}
use Rattle.tk_handle.specs.LoginId.{login_in}
use Rattle.tk_handle.specs.declared.dot.Dot.{Dot}
use Rattle.tk_handle.specs.Dot.{dot_cmp}
use Rattle.tk_fact.specs.Subject.{is_subject}
use Rattle.tk_fact.specs.declared.by.By.{By}
use Rattle.tk_fact.specs.declared.consent_given.ConsentGiven as given
use Rattle.tk_match.specs.Pick.{Picked, Uri, Missing, Unknown, picked}
use Rattle.tk_store.specs.FactSet.{FactSet}
use Rattle.tk_store.specs.Walk.{above}
use Rattle.tk_ledger.specs.Clients.{consent_for}
use Rattle.tk_ledger.specs.Logins.{login_view}
use Rattle.tk_ledger.specs.Secrets.{last_turn, is_set, is_secret_at}
use Rattle.tk_ledger.specs.SignOuts.{is_signed_out}
use Rattle.tk_ledger.specs.SubjectWalk.{consents_of, logins_of}
use Rattle.tk_ledger.specs.ViewFields.{ClientFields, ConsentFields, LoginFields}
use Rattle.tk_ledger.specs.Views.{client_view, consent_view}
use Rattle.tk_ledger.proofs.ClientWalkLaws.{clients_same}
use Rattle.tk_params.specs.Params.{Pairs, value_of, has_twice}
use Rattle.tk_message.specs.ClientPage.{page_body}
use Rattle.tk_message.specs.LastSignOut.{last_sign_out}
use Rattle.tk_message.specs.SubjectPage.{page_of}
use Rattle.tk_message.proofs.LastSignOutLaws.{last_sign_out_same}
use Rattle.tk_message.specs.Reply.{json_reply}
use Rattle.tk_message.specs.Decision.{answered}
use Rattle.tk_message.specs.RequestFields.{RequestFields}
use Rattle.tk_message.specs.declared.status_code.StatusCode.TheVariants as status
use Rattle.tk_message.specs.declared.choices.Choices.{Choices}
use Rattle.tk_message.specs.declared.choices.ConsentReuse.{ConsentReuse}
use Rattle.tk_message.specs.declared.choices.ConsentReuse.TheVariants.{New, Held}
use Rattle.tk_message.specs.declared.place.Place.{Place}
use Rattle.tk_message.specs.declared.request.Endpoint.{Endpoint}
use Rattle.tk_message.specs.declared.request.Endpoint.TheVariants as endpoint
use Rattle.tk_message.specs.declared.choices.ChallengeRules.{ChallengeRules}
use Rattle.tk_authorize.specs.Administered.{shown_at, shown_by, retired_at, retired_by}
use Rattle.tk_authorize.specs.Administered.{client_named, consented_at, consented_to, consented_by}
use Rattle.tk_authorize.specs.Administered.{consent_names, withdrawn_at, withdrawn_to, withdrawn_by}
use Rattle.tk_authorize.specs.Administered.{withdrawal_names, signed_out_by, sign_out_names}
use Rattle.tk_authorize.specs.Administered.{administered_at, administered_of}
use Rattle.tk_authorize.specs.Administration.{administered_by, decided_alone, decided_as}
use Rattle.tk_authorize.specs.Administration.{administration_of}
use Rattle.tk_authorize.specs.ClientParams.{client_asked, digest_asked}
use Rattle.tk_authorize.specs.Chosen.{chosen, consented_again, held_or_given}
use Rattle.tk_authorize.specs.Approval.{approval_by_consent, approval_of}
use Rattle.tk_authorize.specs.Asked.{asked_of}
use Rattle.tk_authorize.specs.Authorization.{decided_by, authorization_of, kept_state}
use Rattle.tk_authorize.specs.Operators.{by_asked, with_operator}
use Rattle.tk_authorize.specs.Listing.{after_named, listed_by, listing_of}
use Rattle.tk_authorize.specs.Logouts.{ended_at, logged_out_to, logged_out_by, logout_names}
use Rattle.tk_authorize.specs.SecretChanges.{first_secret, set_at, changed_once, ended_if}
use Rattle.tk_authorize.specs.SecretChanges.{changed_as, changed_to, changed_from, changed_at}
use Rattle.tk_authorize.specs.SecretChanges.{changed_by, change_names}
use Rattle.tk_authorize.specs.SubjectListing as subjects
use Rattle.tk_authorize.specs.SubjectListing.{subject_of}
use Rattle.tk_authorize.specs.Judged.{judged_at, target_of, judged_by_redirect, judged_by_view}
use Rattle.tk_authorize.specs.Judged.{judged_by_client, judged_by_id, target_names}
use Rattle.tk_authorize.specs.declared.admin_refusal.AdminRefusal.{AdminRefusal}
use Rattle.tk_authorize.specs.declared.admin_refusal.AdminRefusal.TheVariants.{DuplicateParameter}
use Rattle.tk_authorize.specs.declared.admin_refusal.AdminRefusal.TheVariants.{MalformedSubject}
use Rattle.tk_authorize.specs.declared.admin_refusal.AdminRefusal.TheVariants.{UnknownClient}
use Rattle.tk_authorize.specs.declared.admin_refusal.AdminRefusal.TheVariants.{WrongOld}
use Rattle.tk_authorize.specs.declared.administered.Administered.{Administered}
use Rattle.tk_authorize.specs.declared.administered.Administered.TheVariants as administered
use Rattle.tk_authorize.specs.declared.asked.Asked.{Asked}
use Rattle.tk_authorize.specs.declared.subject_listing.SubjectAsked.{SubjectAsked}
use Rattle.tk_authorize.specs.declared.denial.Denial.{Denial}
use Rattle.tk_authorize.specs.declared.denial.Denial.TheVariants as denial
use Rattle.tk_authorize.specs.declared.judged.Judged.{Judged}
use Rattle.tk_authorize.specs.declared.judged.Judged.TheVariants.{Refused}
use Rattle.tk_authorize.specs.declared.refusal.Refusal.TheVariants as refusal

-- ---- authorization requests

module _ (F G : FactSet) (views : (d : Dot) → client_view F d ≡ client_view G d)
    (grants : (client : Dot) (subject scope : List ℕ)
    → consent_for F client subject scope ≡ consent_for G client subject scope) where
  -- the approval of an authorization request is the same by both sets
  approval_same : (client : Dot) (subject : Option (List ℕ)) (r : Result Asked Denial)
      → approval_of F client subject r ≡ approval_of G client subject r
  approval_same client subject (Err why) = refl
  approval_same client None (Ok asked) = refl
  approval_same client (Some subject) (Ok asked) =
      ap (λ (o : Option Dot).
      cond (is_subject subject) (approval_by_consent subject asked o) (Err denial.MalformedSubject))
      (grants client subject asked.scope)

  -- a request is judged alike by both sets, whatever redirect URI was picked
  redirect_same : (rules : ChallengeRules) (params : Pairs) (subject : Option (List ℕ))
      (client : Dot) (view : ClientFields) (x : Picked)
      → judged_by_redirect F rules params subject client view x
      ≡ judged_by_redirect G rules params subject client view x
  redirect_same rules params subject client view Missing = refl
  redirect_same rules params subject client view Unknown = refl
  redirect_same rules params subject client view (Uri uri) =
      ap (judged_at (target_of client view.lives uri params))
      (approval_same client subject (asked_of rules view.client_kind view.scope params))

  -- a request is judged alike by both sets with the same view of its client
  view_same : (rules : ChallengeRules) (params : Pairs) (subject : Option (List ℕ)) (client : Dot)
      (o : Option ClientFields)
      → judged_by_view F rules params subject client o
      ≡ judged_by_view G rules params subject client o
  view_same rules params subject client None = refl
  view_same rules params subject client (Some view) =
      ap (λ (x : Judged). cond view.live x (Refused refusal.RetiredClient))
      (redirect_same rules params subject client view
      (picked view.redirects (value_of (codes "redirect_uri") params)))

  -- a request is judged alike by both sets, with a client or without
  client_same : (rules : ChallengeRules) (params : Pairs) (subject : Option (List ℕ))
      (o : Option Dot)
      → judged_by_client F rules params subject o ≡ judged_by_client G rules params subject o
  client_same rules params subject None = refl
  client_same rules params subject (Some client) =
      ap (judged_by_view F rules params subject client) (views client)
      ∙ view_same rules params subject client (client_view G client)

  -- a request is judged alike by both sets, with a client identifier or without
  id_same : (rules : ChallengeRules) (params : Pairs) (subject : Option (List ℕ))
      (o : Option (List ℕ))
      → judged_by_id F rules params subject o ≡ judged_by_id G rules params subject o
  id_same rules params subject None = refl
  id_same rules params subject (Some id) = client_same rules params subject (client_in id)

-- two sets of facts with the same clients and consents decide an authorization request alike
pub authorizations_same : (F G : FactSet) (place : Place) (now : ℕ) (words : List ℕ)
    (request : RequestFields)
    → ((d : Dot) → client_view F d ≡ client_view G d)
    → ((client : Dot) (subject scope : List ℕ)
    → consent_for F client subject scope ≡ consent_for G client subject scope)
    → authorization_of F place now words request ≡ authorization_of G place now words request
authorizations_same F G place now words request views grants =
    ap (λ (x : Judged).
    decided_by place now words (kept_state (value_of (codes "state") request.params))
    (cond (has_twice target_names request.params) (Refused refusal.DuplicateClientOrRedirect) x))
    (id_same F G views grants place.choices.challenge request.params request.subject
    (value_of (codes "client_id") request.params))

-- ---- administration requests

module _ (F G : FactSet) (now : ℕ) (views : (d : Dot) → client_view F d ≡ client_view G d)
    (consents : (d : Dot) → consent_view F d ≡ consent_view G d)
    (outs : (subject : List ℕ) (moment : ℕ)
    → is_signed_out F subject moment ≡ is_signed_out G subject moment)
    (logouts : (d : Dot) → ended_at F d (login_view F now d) ≡ ended_at G d (login_view G now d))
    (turns : (d : Dot) → last_turn F d ≡ last_turn G d)
    (secrets : (d : Dot) (turn : ℕ) (digest : List ℕ)
    → is_set F d turn digest ≡ is_set G d turn digest)
  where
    shown_same : (r : Result Dot AdminRefusal) → shown_by F r ≡ shown_by G r
    shown_same (Err why) = refl
    shown_same (Ok d) = ap (shown_at d) (views d)

    retired_same : (r : Result Dot AdminRefusal) → retired_by F r ≡ retired_by G r
    retired_same (Err why) = refl
    retired_same (Ok d) = ap (retired_at d) (views d)

    consented_to_same : (subject scope : List ℕ) (o : Option Dot)
        → consented_to F subject scope o ≡ consented_to G subject scope o
    consented_to_same subject scope None = refl
    consented_to_same subject scope (Some client) =
        ap (consented_at client subject scope) (views client)

    consented_same : (id subject scope : Option (List ℕ))
        → consented_by F id subject scope ≡ consented_by G id subject scope
    consented_same None subject scope = refl
    consented_same (Some id) None scope = refl
    consented_same (Some id) (Some subject) None = refl
    consented_same (Some id) (Some subject) (Some scope) =
        consented_to_same subject scope (client_in id)

    withdrawn_to_same : (o : Option Dot) → withdrawn_to F o ≡ withdrawn_to G o
    withdrawn_to_same None = refl
    withdrawn_to_same (Some d) = ap (withdrawn_at d) (consents d)

    withdrawn_same : (o : Option (List ℕ)) → withdrawn_by F o ≡ withdrawn_by G o
    withdrawn_same None = refl
    withdrawn_same (Some id) = withdrawn_to_same (consent_in id)

    signed_out_same : (o : Option (List ℕ)) → signed_out_by F now o ≡ signed_out_by G now o
    signed_out_same None = refl
    signed_out_same (Some subject) =
        ap (λ t. cond (is_subject subject)
        (cond t (administered.AlreadyOut subject)
        (administered.SignsOut (record { subject = subject; moment = now; by = None })))
        (administered.Refused MalformedSubject)) (outs subject now)

    logged_out_to_same : (o : Option Dot) → logged_out_to F now o ≡ logged_out_to G now o
    logged_out_to_same None = refl
    logged_out_to_same (Some d) = logouts d

    logged_out_same : (o : Option (List ℕ)) → logged_out_by F now o ≡ logged_out_by G now o
    logged_out_same None = refl
    logged_out_same (Some id) = logged_out_to_same (login_in id)

    -- a change of a secret
    held_same : (d : Dot) (first digest : List ℕ)
        → is_secret_at F d first (last_turn F d) digest
        ≡ is_secret_at G d first (last_turn G d) digest
    held_same d first digest =
        ap (λ turn. is_secret_at F d first turn digest) (turns d)
        ∙ ap (λ t. ((last_turn G d == 0) && bytes_eq first digest) || t)
        (secrets d (last_turn G d) digest)

    once_same : (d : Dot) (first digest : List ℕ)
        → changed_once F now d first digest ≡ changed_once G now d first digest
    once_same d first digest = λ i. cond (held_same d first digest i) (administered.HasSecret d)
        (set_at now d digest (turns d i) 1)

    ended_same : (d : Dot) (digest old : List ℕ)
        → ended_if F now d digest old ≡ ended_if G now d digest old
    ended_same d digest old =
        ap (λ turn. cond (bytes_eq old (codes "ended")) (set_at now d digest turn 2)
        (administered.Refused WrongOld)) (turns d)

    changed_as_same : (d : Dot) (first digest : List ℕ) (old : Option (List ℕ))
        → changed_as F now d first digest old ≡ changed_as G now d first digest old
    changed_as_same d first digest None = once_same d first digest
    changed_as_same d first digest (Some old) = ended_same d digest old

    changed_to_same : (d : Dot) (first : List ℕ) (r : Result (List ℕ) AdminRefusal)
        (old : Option (List ℕ)) → changed_to F now d first r old ≡ changed_to G now d first r old
    changed_to_same d first (Err why) old = refl
    changed_to_same d first (Ok digest) old = changed_as_same d first digest old

    changed_from_same : (d : Dot) (first secret old : Option (List ℕ))
        → changed_from F now d first secret old ≡ changed_from G now d first secret old
    changed_from_same d None secret old = refl
    changed_from_same d (Some first) secret old =
        changed_to_same d first (digest_asked secret) old

    changed_at_same : (d : Dot) (secret old : Option (List ℕ)) (o : Option ClientFields)
        → changed_at F now d secret old o ≡ changed_at G now d secret old o
    changed_at_same d secret old None = refl
    changed_at_same d secret old (Some view) =
        ap (λ (x : Administered). cond view.live x (administered.Refused UnknownClient))
        (changed_from_same d (first_secret view.client_kind) secret old)

    changed_same : (secret old : Option (List ℕ)) (r : Result Dot AdminRefusal)
        → changed_by F now secret old r ≡ changed_by G now secret old r
    changed_same secret old (Err why) = refl
    changed_same secret old (Ok d) = ap (changed_at F now d secret old) (views d)
        ∙ changed_at_same d secret old (client_view G d)

    administered_same : (e : Endpoint) (params : Pairs)
        → administered_at e F now params ≡ administered_at e G now params
    administered_same endpoint.Authorize params = refl
    administered_same endpoint.Token params = refl
    administered_same endpoint.Introspect params = refl
    administered_same endpoint.Revoke params = refl
    administered_same endpoint.AddClient params = refl
    administered_same endpoint.ShowClient params = shown_same (client_named params)
    administered_same endpoint.ListClients params = refl
    administered_same endpoint.Retire params = retired_same (client_named params)
    administered_same endpoint.ChangeSecret params =
        ap (λ (x : Administered).
        cond (has_twice change_names params) (administered.Refused DuplicateParameter) x)
        (changed_same (value_of (codes "secret") params) (value_of (codes "old") params)
        (client_asked (value_of (codes "client_id") params)))
    administered_same endpoint.Consent params =
        ap (λ (x : Administered).
        cond (has_twice consent_names params) (administered.Refused DuplicateParameter) x)
        (consented_same (value_of (codes "client_id") params) (value_of (codes "subject") params)
        (value_of (codes "scope") params))
    administered_same endpoint.Withdraw params =
        ap (λ (x : Administered).
        cond (has_twice withdrawal_names params) (administered.Refused DuplicateParameter) x)
        (withdrawn_same (value_of (codes "consent_id") params))
    administered_same endpoint.SignOut params =
        ap (λ (x : Administered).
        cond (has_twice sign_out_names params) (administered.Refused DuplicateParameter) x)
        (signed_out_same (value_of (codes "subject") params))
    administered_same endpoint.ShowSubject params = refl
    administered_same endpoint.Logout params =
        ap (λ (x : Administered).
        cond (has_twice logout_names params) (administered.Refused DuplicateParameter) x)
        (logged_out_same (value_of (codes "login_id") params))

-- judgements by the choices
module _ (F G : FactSet)
    (grants : (client : Dot) (subject scope : List ℕ)
    → consent_for F client subject scope ≡ consent_for G client subject scope) where
  -- whether a consent is given again is the same by both sets, with either choice
  again_same : (choice : ConsentReuse) (consent : given.ConsentGiven)
      → consented_again F choice consent ≡ consented_again G choice consent
  again_same New consent = refl
  again_same Held consent = ap (λ (o : Option Dot). held_or_given o consent)
      (grants consent.client consent.subject consent.scope)

  -- an administration decision is the same by both sets, by the choices
  chosen_same : (choices : Choices) (a : Administered) → chosen F choices a ≡ chosen G choices a
  chosen_same choices (administered.Consents consent) = again_same choices.consent consent
  chosen_same choices (administered.Refused why) = refl
  chosen_same choices (administered.Registers client) = refl
  chosen_same choices (administered.Shows client) = refl
  chosen_same choices (administered.Retires client live) = refl
  chosen_same choices (administered.HasConsent consent) = refl
  chosen_same choices (administered.Withdraws consent live) = refl
  chosen_same choices (administered.AlreadyOut subject) = refl
  chosen_same choices (administered.SignsOut sign_out) = refl
  chosen_same choices (administered.LogsOut login revocation) = refl
  chosen_same choices (administered.AlreadyEnded login) = refl
  chosen_same choices (administered.SetsSecret secret) = refl
  chosen_same choices (administered.HasSecret client) = refl

-- two sets of facts with the same clients, consents, sign-outs, secrets and endings of logins
-- decide an administration request alike
pub administrations_same : (F G : FactSet) (place : Place) (now : ℕ) (request : RequestFields)
    → ((d : Dot) → client_view F d ≡ client_view G d)
    → ((d : Dot) → consent_view F d ≡ consent_view G d)
    → ((subject : List ℕ) (moment : ℕ)
    → is_signed_out F subject moment ≡ is_signed_out G subject moment)
    → ((d : Dot) → ended_at F d (login_view F now d) ≡ ended_at G d (login_view G now d))
    → ((d : Dot) → last_turn F d ≡ last_turn G d)
    → ((d : Dot) (turn : ℕ) (digest : List ℕ) → is_set F d turn digest ≡ is_set G d turn digest)
    → ((client : Dot) (subject scope : List ℕ)
    → consent_for F client subject scope ≡ consent_for G client subject scope)
    → administration_of F place now request ≡ administration_of G place now request
administrations_same F G place now request views consents outs logouts turns secrets grants =
    by_operator (by_asked now request.operator)
  where
    alone_same : decided_alone F place now request ≡ decided_alone G place now request
    alone_same =
        ap (λ (a : Administered). administered_by place (chosen F place.choices a))
        (administered_same F G now views consents outs logouts turns secrets request.endpoint
        request.params)
        ∙ ap (administered_by place)
        (chosen_same F G grants place.choices (administered_of G now request))

    by_operator : (r : Result (Option By) AdminRefusal)
        → decided_as F place now request r ≡ decided_as G place now request r
    by_operator (Err why) = refl
    by_operator (Ok by) = ap (with_operator by) alone_same

-- ---- pages of clients

-- two sets of facts with the same clients decide a request for a page of clients alike
pub listings_same : (F G : FactSet) (params : Pairs)
    → ((d : Dot) → client_view F d ≡ client_view G d) → listing_of F params ≡ listing_of G params
listings_same F G params views = by_cursor (after_named params)
  where
    by_cursor : (r : Result (Option Dot) AdminRefusal) → listed_by F r ≡ listed_by G r
    by_cursor (Err why) = refl
    by_cursor (Ok after) = ap (λ (m : map.FinMap dot_cmp ClientFields).
        answered (json_reply status.Ok (page_body after (above m after)))) (clients_same F G views)

-- ---- pages of what subjects have

-- two sets of facts with the same consents, logins and sign-outs of each subject decide a request
-- for what a subject has alike
pub subjects_same : (F G : FactSet) (now : ℕ) (params : Pairs)
    → ((subject : List ℕ) → consents_of F subject ≡ consents_of G subject)
    → ((subject : List ℕ) → logins_of F now subject ≡ logins_of G now subject)
    → ((subject : List ℕ) (moment : ℕ)
    → is_signed_out F subject moment ≡ is_signed_out G subject moment)
    → subject_of F now params ≡ subject_of G now params
subjects_same F G now params given begun outs = by_asked (subjects.asked_of params)
  where
    by_asked : (r : Result SubjectAsked AdminRefusal)
        → subjects.shown_by F now r ≡ subjects.shown_by G now r
    by_asked (Err why) = refl
    by_asked (Ok a) =
        ap (λ (m : map.FinMap dot_cmp ConsentFields).
        answered (json_reply status.Ok
        (page_of a.consents_after (above m a.consents_after) a.logins_after
        (above (logins_of F now a.subject) a.logins_after) (last_sign_out F a.subject) a.subject)))
        (given a.subject)
        ∙ ap (λ (m : map.FinMap dot_cmp LoginFields).
        answered (json_reply status.Ok
        (page_of a.consents_after (above (consents_of G a.subject) a.consents_after) a.logins_after
        (above m a.logins_after) (last_sign_out F a.subject) a.subject)))
        (begun a.subject)
        ∙ ap (λ (o : Option ℕ).
        answered (json_reply status.Ok
        (page_of a.consents_after (above (consents_of G a.subject) a.consents_after) a.logins_after
        (above (logins_of G now a.subject) a.logins_after) o a.subject)))
        (last_sign_out_same F G a.subject (outs a.subject))
