-- Token requests are decided alike by two stores that answer each handle alike and have the same
-- clients. Key results:
--   lost_gate      a lost token is refused as an invalid grant
--   grants_alike   the decisions
use Rattle.std.proofs.Common.{◌≡◌, ◌≢◌, inl, inr, ℕ, Bool, true, false, ◌==◌, cond, List, codes}
use Rattle.std.proofs.Common.{Option, None, Some, refl, sym, ap, ◌∙◌}
use Rattle.std.proofs.lemmas.Bool.{true≢false}
use Rattle.std.specs.Str.{bytes_eq}
use Rattle.tk_handle.specs.Handle.{handle_in}
use Rattle.tk_handle.specs.Kind.{kind_number}
use Rattle.tk_handle.specs.declared.dot.Dot.{Dot}
use Rattle.tk_handle.specs.declared.handle.Handle.{Handle}
use Rattle.tk_handle.specs.declared.kind.Kind.{Kind}
use Rattle.tk_handle.specs.declared.kind.Kind.TheVariants as kind
use Rattle.tk_handle.specs.declared.token_id.TokenId.{TokenId}
use Rattle.tk_store.specs.StoreFields.{StoreFields, held_facts}
use Rattle.tk_ledger.specs.Bodies.{is_same_dot}
use Rattle.tk_ledger.specs.StandingFields.{StandingFields}
use Rattle.tk_ledger.specs.Status.{status_here}
use Rattle.tk_ledger.specs.Views.{client_view}
use Rattle.tk_ledger.specs.ViewFields.{ClientFields}
use Rattle.tk_ledger.specs.declared.status.State.{State}
use Rattle.tk_ledger.specs.declared.status.State.TheVariants as state
use Rattle.tk_ledger.specs.declared.status.Status.{Status}
use Rattle.tk_ledger.specs.declared.status.Status.TheVariants.{Unseen, Wrong, Broken, Known}
use Rattle.tk_params.specs.Params.{Pairs, value_of}
use Rattle.tk_message.specs.Caller.{caller_of}
use Rattle.tk_message.specs.Decision.{refused}
use Rattle.tk_message.specs.RequestFields.{RequestFields}
use Rattle.tk_message.specs.declared.caller.Caller.{Caller}
use Rattle.tk_message.specs.declared.caller.Caller.TheVariants as caller
use Rattle.tk_message.specs.declared.error_code.ErrorCode.TheVariants.{InvalidGrant}
use Rattle.tk_message.specs.declared.place.Place.{Place}
use Rattle.tk_grant.specs.Gate.{gate_by_state, gate_by_client, gate_by_status, gate_by_handle}
use Rattle.tk_grant.specs.Gate.{gate_by_text, gate_of}
use Rattle.tk_grant.specs.Granted.{granted_by, grant_of}
use Rattle.tk_grant.specs.Judged.{judged_by_type, judged_by_caller, known_names}
use Rattle.tk_grant.specs.Redeemed.{redeemed_of}
use Rattle.tk_grant.specs.Refusal.{refusal_code}
use Rattle.tk_grant.specs.Renewed.{is_keeping, registered_lives, renewed_of}
use Rattle.tk_grant.specs.declared.gate.Gate.{Gate}
use Rattle.tk_grant.specs.declared.gate.Gate.TheVariants.{Shut}
use Rattle.tk_grant.specs.declared.judged.Judged.{Judged}
use Rattle.tk_grant.specs.declared.judged.Judged.TheVariants.{Refused}
use Rattle.tk_grant.specs.declared.refusal.Refusal.{Refusal}
use Rattle.tk_grant.specs.declared.refusal.Refusal.TheVariants.{UnsupportedGrantType, UnknownGrant}
use Rattle.tk_grant.specs.declared.refusal.Refusal.TheVariants.{ForeignGrant, DeadFamily}
use Rattle.tk_grant.specs.declared.refusal.Refusal.TheVariants.{WithdrawnGrant, FamilyOver}
use Rattle.tk_ledger.specs.Alike.{is_closed, IsLost, AnsweredAlike}

-- a gate that is shut, with an invalid grant
pub record IsShut (g : Gate) : Type 0 where
  pub why : Refusal
  pub is : g ≡ Shut why
  pub code : refusal_code why ≡ InvalidGrant

-- a closed state shuts the gate with an invalid grant
by_state : (id : TokenId) (s : StandingFields) (x : State) → is_closed x ≡ true
    → IsShut (gate_by_state id s x)
by_state id s state.Dead h = record { why = DeadFamily; is = refl; code = refl }
by_state id s state.Withdrawn h = record { why = WithdrawnGrant; is = refl; code = refl }
by_state id s state.Over h = record { why = FamilyOver; is = refl; code = refl }
by_state id s x h = absurd (true≢false (sym h))

-- the gate of a closed grant is shut, whichever client sends it
by_client : (id : TokenId) (client : Dot) (s : StandingFields) → is_closed s.state ≡ true
    → IsShut (gate_by_client id client s)
by_client id client s h = elim (is_same_dot s.client client) as
    (λ t. IsShut (cond t (gate_by_state id s s.state) (Shut ForeignGrant))) [
      | true ↦ by_state id s s.state h
      | false ↦ record { why = ForeignGrant; is = refl; code = refl }
    ]

-- a lost token is refused as an invalid grant
pub lost_gate : (now : ℕ) (h : Handle) (id : TokenId) (client : Dot) (s : Status) → IsLost now h s
    → IsShut (gate_by_status id client s)
lost_gate now h id client Unseen lost = absurd lost
lost_gate now h id client Wrong lost = record { why = UnknownGrant; is = refl; code = refl }
lost_gate now h id client (Broken expiry) lost =
    record { why = UnknownGrant; is = refl; code = refl }
lost_gate now h id client (Known s) lost = by_client id client s lost.0

module _ (place : Place) (now : ℕ) (words : List ℕ) where
  -- two gates lead to one decision, however a grant is judged that refuses what is shut
  abbrev LeadAlike : Gate → Gate → Type 0
  LeadAlike a b = (f : Gate → Judged) → ((why : Refusal) → f (Shut why) ≡ Refused why)
      → granted_by place now words (f a) ≡ granted_by place now words (f b)

  -- a shut gate leads to the refusal of an invalid grant
  shut_leads : (g : Gate) → IsShut g → (f : Gate → Judged)
      → ((why : Refusal) → f (Shut why) ≡ Refused why)
      → granted_by place now words (f g) ≡ refused InvalidGrant
  shut_leads g x f refuses = ap (λ (y : Gate). granted_by place now words (f y)) x.is
      ∙ ap (granted_by place now words) (refuses x.why) ∙ ap refused x.code

  -- the gates of two statuses that are answered alike lead to the same decision
  alike_gates : (h : Handle) (id : TokenId) (client : Dot) (s r : Status) → AnsweredAlike now h s r
      → LeadAlike (gate_by_status id client s) (gate_by_status id client r)
  alike_gates h id client s r (inl same) = λ f refuses.
      ap (λ (x : Status). granted_by place now words (f (gate_by_status id client x))) same
  alike_gates h id client s r (inr lost) = λ f refuses.
      shut_leads (gate_by_status id client s) (lost_gate now h id client s lost.0) f refuses
      ∙ sym (shut_leads (gate_by_status id client r) (lost_gate now h id client r lost.1) f refuses)

  module _ (P Q : StoreFields)
      (alike : (h : Handle) → AnsweredAlike now h (status_here P now h) (status_here Q now h))
      (views : (d : Dot) → client_view (held_facts P) d ≡ client_view (held_facts Q) d) where
    -- the gates of a handle, of whatever kind, lead to the same decision
    by_handle : (client : Dot) (k : Kind) (h : Handle)
        → LeadAlike (gate_by_handle P now client k h) (gate_by_handle Q now client k h)
    by_handle client k h = elim (kind_number h.id.kind == kind_number k) as
        (λ t. LeadAlike
        (cond t (gate_by_status (record { dot = h.id.dot; kind = k }) client (status_here P now h))
        (Shut UnknownGrant))
        (cond t (gate_by_status (record { dot = h.id.dot; kind = k }) client (status_here Q now h))
        (Shut UnknownGrant))) [
          | true ↦ alike_gates h (record { dot = h.id.dot; kind = k }) client (status_here P now h)
              (status_here Q now h) (alike h)
          | false ↦ λ f refuses. refl
        ]

    -- the gates of a text lead to the same decision, whether or not a handle is read
    by_text : (client : Dot) (k : Kind) (o : Option Handle)
        → LeadAlike (gate_by_text P now client k o) (gate_by_text Q now client k o)
    by_text client k None = λ f refuses. refl
    by_text client k (Some h) = by_handle client k h

    -- the gates of a parameter, sent or missing, lead to the same decision
    by_gate : (client : Dot) (k : Kind) (o : Option (List ℕ))
        → LeadAlike (gate_of P now client k o) (gate_of Q now client k o)
    by_gate client k None = λ f refuses. refl
    by_gate client k (Some text) = by_text client k (handle_in text)

    -- two choices by the same tests are granted alike if each branch is
    both_ifs : (a b : Bool) (x y u v z : Judged)
        → granted_by place now words x ≡ granted_by place now words u
        → granted_by place now words y ≡ granted_by place now words v
        → granted_by place now words (cond a x (cond b y z))
        ≡ granted_by place now words (cond a u (cond b v z))
    both_ifs true b x y u v z one two = one
    both_ifs false true x y u v z one two = two
    both_ifs false false x y u v z one two = refl

    -- what is shut is refused, whether the client keeps its refresh token or not
    shut_refused : (client : Option ClientFields) (params : Pairs) (why : Refusal)
        → renewed_of client params (Shut why) ≡ Refused why
    shut_refused client params why = by (is_keeping client)
      where
        by : (keeping : Bool) → cond keeping (Refused why) (Refused why) ≡ Refused why
        by true = refl
        by false = refl

    -- a code is redeemed alike
    by_code : (params : Pairs) (client : Dot) (o : Option (List ℕ))
        → granted_by place now words
        (redeemed_of (registered_lives (client_view (held_facts P) client)) params
        (gate_of P now client kind.Code o))
        ≡ granted_by place now words
        (redeemed_of (registered_lives (client_view (held_facts Q) client)) params
        (gate_of Q now client kind.Code o))
    by_code params client o =
        by_gate client kind.Code o
        (redeemed_of (registered_lives (client_view (held_facts P) client)) params)
        (λ why. refl)
        ∙ ap (λ (v : Option ClientFields).
        granted_by place now words (redeemed_of (registered_lives v) params
        (gate_of Q now client kind.Code o))) (views client)

    -- a refresh is judged alike
    by_refresh : (params : Pairs) (client : Dot) (o : Option (List ℕ))
        → granted_by place now words (renewed_of (client_view (held_facts P) client) params
        (gate_of P now client kind.Refresh o))
        ≡ granted_by place now words (renewed_of (client_view (held_facts Q) client) params
        (gate_of Q now client kind.Refresh o))
    by_refresh params client o =
        by_gate client kind.Refresh o (renewed_of (client_view (held_facts P) client) params)
        (shut_refused (client_view (held_facts P) client) params)
        ∙ ap (λ (v : Option ClientFields). granted_by place now words (renewed_of v params
        (gate_of Q now client kind.Refresh o))) (views client)

    -- a request is granted alike, with each grant type
    by_type : (params : Pairs) (client : Dot) (o : Option (List ℕ))
        → granted_by place now words (judged_by_type P now params client o)
        ≡ granted_by place now words (judged_by_type Q now params client o)
    by_type params client None = refl
    by_type params client (Some name) =
        both_ifs (bytes_eq name (codes "authorization_code"))
        (bytes_eq name (codes "refresh_token"))
        (redeemed_of (registered_lives (client_view (held_facts P) client)) params
        (gate_of P now client kind.Code (value_of (codes "code") params)))
        (renewed_of (client_view (held_facts P) client) params
        (gate_of P now client kind.Refresh (value_of (codes "refresh_token") params)))
        (redeemed_of (registered_lives (client_view (held_facts Q) client)) params
        (gate_of Q now client kind.Code (value_of (codes "code") params)))
        (renewed_of (client_view (held_facts Q) client) params
        (gate_of Q now client kind.Refresh (value_of (codes "refresh_token") params)))
        (Refused UnsupportedGrantType)
        (by_code params client (value_of (codes "code") params))
        (by_refresh params client (value_of (codes "refresh_token") params))

    -- a request is granted alike, whoever sent it
    by_caller : (params : Pairs) (c : Caller)
        → granted_by place now words (judged_by_caller P now params c)
        ≡ granted_by place now words (judged_by_caller Q now params c)
    by_caller params caller.DuplicateParameter = refl
    by_caller params caller.MixedCredentials = refl
    by_caller params caller.InvalidClient = refl
    by_caller params (caller.Client client) =
        by_type params client (value_of (codes "grant_type") params)

    -- a token request is decided alike if its sender is
    pub grant_alike : (request : RequestFields)
        → caller_of (held_facts P) known_names request
        ≡ caller_of (held_facts Q) known_names request
        → grant_of P place now words request ≡ grant_of Q place now words request
    grant_alike request same =
        ap (λ (c : Caller). granted_by place now words (judged_by_caller P now request.params c))
        same
        ∙ by_caller request.params (caller_of (held_facts Q) known_names request)

-- stores whose statuses, clients and callers are alike decide token requests alike
pub grants_alike : (P Q : StoreFields) (place : Place) (now : ℕ) (words : List ℕ)
    (request : RequestFields)
    → ((h : Handle) → AnsweredAlike now h (status_here P now h) (status_here Q now h))
    → ((d : Dot) → client_view (held_facts P) d ≡ client_view (held_facts Q) d)
    → caller_of (held_facts P) known_names request ≡ caller_of (held_facts Q) known_names request
    → grant_of P place now words request ≡ grant_of Q place now words request
grants_alike P Q place now words request alike views same =
    grant_alike place now words P Q alike views request same
