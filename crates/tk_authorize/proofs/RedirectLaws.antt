-- The URI that the reply to an authorization request leads to. Key result:
--   decision_leads   the reply leads to a URI that matches one of the client's, or to no URI
use Rattle.std.proofs.Common.{◌≡◌, ℕ, Bool, true, false, if◌then◌else◌, List, [], ◌∷◌, codes}
use Rattle.std.proofs.Common.{Option, Some, None, Ok, Err, IfOk, refl, ap, sym, subst}
use Rattle.std.specs.Option.{option_and_then}
use Rattle.std.specs.Prelude.{Result}
use Rattle.tk_handle.specs.declared.dot.Dot.{Dot}
use Rattle.tk_handle.specs.ClientId.{client_in}
use Rattle.tk_match.proofs.PickLaws.{picked_matches, picked_meant}
use Rattle.tk_match.specs.Pick.{Picked, Uri, Missing, Unknown, picked}
use Rattle.tk_store.specs.FactSet.{FactSet}
use Rattle.tk_ledger.specs.Views.{client_view}
use Rattle.tk_ledger.specs.ViewFields.{ClientFields}
use Rattle.tk_params.specs.Params.{Pairs, value_of, has_twice}
use Rattle.std.specs.declared.alloc.AllocError.{AllocError}
use Rattle.tk_message.specs.declared.decision.Decision.{Decision}
use Rattle.tk_message.specs.declared.place.Place.{Place}
use Rattle.tk_message.specs.Reply.{redirect_reply}
use Rattle.tk_message.specs.RequestFields.{RequestFields}
use Rattle.tk_message.specs.declared.choices.ChallengeRules.{ChallengeRules}
use Rattle.tk_authorize.specs.declared.approval.Approval.{Approval}
use Rattle.tk_authorize.specs.declared.denial.Denial.{Denial}
use Rattle.tk_authorize.specs.declared.judged.Judged.{Judged}
use Rattle.tk_authorize.specs.declared.judged.Judged.TheVariants.{Refused, Denied, Approved}
use Rattle.tk_authorize.specs.declared.judged.Target.{Target}
use Rattle.tk_authorize.specs.declared.refusal.Refusal.TheVariants as refusal
use Rattle.tk_authorize.specs.Authorization.{decided_by, authorization_of}
use Rattle.tk_authorize.specs.Judged.{judged_at, target_of, judged_by_redirect, judged_by_view}
use Rattle.tk_authorize.specs.Judged.{judged_by_client, judged_by_id, judged_of, target_names}
use Rattle.tk_authorize.specs.Registered.{IsRegistered, LeadsToClient}

-- a judgement leads to a URI that matches a registered one, or to no URI
abbrev LeadsTo : FactSet → Pairs → Judged → Type 0
LeadsTo F params (Refused why) = Unit {0}
LeadsTo F params (Denied target why) = IsRegistered F params target.uri
LeadsTo F params (Approved target approval) = IsRegistered F params target.uri

-- a judgement at a registered URI leads to that URI
at_target : (F : FactSet) (params : Pairs) (target : Target) (approval : Result Approval Denial)
    → IsRegistered F params target.uri → LeadsTo F params (judged_at target approval)
at_target F params target (Ok approval) known = known
at_target F params target (Err why) known = known

-- for `by_live`: by the redirect URI that is picked
by_redirect : (F : FactSet) (rules : ChallengeRules) (params : Pairs) (subject : Option (List ℕ))
    (client : Dot) (view : ClientFields)
    → option_and_then client_in (value_of (codes "client_id") params) ≡ Some client
    → client_view F client ≡ Some view → view.live ≡ true → (p : Picked)
    → picked view.redirects (value_of (codes "redirect_uri") params) ≡ p
    → LeadsTo F params (judged_by_redirect F rules params subject client view p)
by_redirect F rules params subject client view named added live Missing is = tt
by_redirect F rules params subject client view named added live Unknown is = tt
by_redirect F rules params subject client view named added live (Uri uri) is =
    at_target F params (target_of client view.lives uri params) _ (record {
      client = client;
      view = view;
      named = named;
      added = added;
      live = live;
      meant = picked_meant view.redirects (value_of (codes "redirect_uri") params) uri is;
      registered = picked_matches view.redirects (value_of (codes "redirect_uri") params) uri is;
    })

-- for `by_view`: by whether the client is live
by_live : (F : FactSet) (rules : ChallengeRules) (params : Pairs) (subject : Option (List ℕ))
    (client : Dot) (view : ClientFields)
    → option_and_then client_in (value_of (codes "client_id") params) ≡ Some client
    → client_view F client ≡ Some view → (b : Bool) → view.live ≡ b
    → LeadsTo F params
    (if b then judged_by_redirect F rules params subject client view
    (picked view.redirects (value_of (codes "redirect_uri") params)) else Refused
    refusal.RetiredClient)
by_live F rules params subject client view named added true live =
    by_redirect F rules params subject client view named added live _ refl
by_live F rules params subject client view named added false live = tt

-- for `by_client`: by whether the client was added
by_view : (F : FactSet) (rules : ChallengeRules) (params : Pairs) (subject : Option (List ℕ))
    (client : Dot)
    → option_and_then client_in (value_of (codes "client_id") params) ≡ Some client
    → (v : Option ClientFields) → client_view F client ≡ v
    → LeadsTo F params (judged_by_view F rules params subject client v)
by_view F rules params subject client named None added = tt
by_view F rules params subject client named (Some view) added =
    by_live F rules params subject client view named added view.live refl

-- for `by_id`: by the client that the id names, if it names one
by_client : (F : FactSet) (rules : ChallengeRules) (params : Pairs) (subject : Option (List ℕ))
    (d : Option Dot)
    → option_and_then client_in (value_of (codes "client_id") params) ≡ d
    → LeadsTo F params (judged_by_client F rules params subject d)
by_client F rules params subject None named = tt
by_client F rules params subject (Some client) named =
    by_view F rules params subject client named (client_view F client) refl

-- for `by_duplicate`: by the client id that was sent, if one was
by_id : (F : FactSet) (rules : ChallengeRules) (params : Pairs) (subject : Option (List ℕ))
    (id : Option (List ℕ))
    → value_of (codes "client_id") params ≡ id
    → LeadsTo F params (judged_by_id F rules params subject id)
by_id F rules params subject None is = tt
by_id F rules params subject (Some id) is =
    by_client F rules params subject (client_in id) (ap (option_and_then client_in) is)

-- for `leads`: by whether the client id or the redirect URI was sent twice
by_duplicate : (F : FactSet) (rules : ChallengeRules) (params : Pairs) (subject : Option (List ℕ))
    (b : Bool)
    → LeadsTo F params
    (if b then Refused refusal.DuplicateClientOrRedirect else judged_by_id F rules params subject
    (value_of (codes "client_id") params))
by_duplicate F rules params subject true = tt
by_duplicate F rules params subject false = by_id F rules params subject _ refl

-- a redirect leads to the URI that it is made of
redirect_leads : (F : FactSet) (params : Pairs) (uri name value : List ℕ) (state : Option (List ℕ))
    → IsRegistered F params uri → LeadsToClient F params (redirect_reply uri name value state)
redirect_leads F params uri name value None known =
    record { uri = uri; known = known; first = (name, value); others = []; location_is = refl }
redirect_leads F params uri name value (Some state) known = record {
  uri = uri;
  known = known;
  first = (name, value);
  others = (codes "state", state) ∷ [];
  location_is = refl;
}

-- the reply leads to the URI that the judgement leads to
decided_leads : (F : FactSet) (params : Pairs) (place : Place) (now : ℕ) (words : List ℕ)
    (state : Option (List ℕ)) (judged : Judged)
    → LeadsTo F params judged
    → LeadsToClient F params (decided_by place now words state judged).reply
decided_leads F params place now words state (Refused why) known = tt
decided_leads F params place now words state (Denied target why) known =
    redirect_leads F params target.uri _ _ state known
decided_leads F params place now words state (Approved target approval) known =
    redirect_leads F params target.uri _ _ state known

-- the reply to an authorization request leads to a URI that matches a registered one, or to no URI
leads : (F : FactSet) (place : Place) (now : ℕ) (words : List ℕ) (request : RequestFields)
    → LeadsToClient F request.params (authorization_of F place now words request).reply
leads F place now words request =
    decided_leads F request.params place now words _
    (judged_of F place.choices.challenge request.params request.subject)
    (by_duplicate F place.choices.challenge request.params request.subject
    (has_twice target_names request.params))

-- the reply of a decision that is the one by definition leads to a URI of the client, or nowhere
pub decision_leads : (F : FactSet) (place : Place) (now : ℕ) (words : List ℕ)
    (request : RequestFields) (r : Result Decision AllocError)
    → IfOk r (λ d. d ≡ authorization_of F place now words request)
    → IfOk r (λ d. LeadsToClient F request.params d.reply)
decision_leads F place now words request (Ok d) is =
    subst (λ (x : Decision). LeadsToClient F request.params x.reply) (sym is)
    (leads F place now words request)
decision_leads F place now words request (Err e) is = tt
