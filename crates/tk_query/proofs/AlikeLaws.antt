-- Introspection and revocation requests are decided alike by two stores whose statuses are answered
-- alike. Key results:
--   introspections_alike   the replies to introspection requests
--   revocations_alike      the decisions of revocation requests
use Rattle.std.proofs.Common.{◌≡◌, ◌≢◌, ◌⊎◌, inl, inr, ℕ, Bool, true, false, nat_le}
use Rattle.std.proofs.Common.{cond, List, codes, Option, None, Some, refl, sym, ap, subst, ◌∙◌}
use borrow.Author.Tests.{le-leb}
use Rattle.std.proofs.lemmas.Bool.{true≢false, cases_Bool, leb-false}
use Rattle.tk_handle.specs.Handle.{handle_in}
use Rattle.tk_handle.specs.declared.dot.Dot.{Dot}
use Rattle.tk_handle.specs.declared.handle.Handle.{Handle}
use Rattle.tk_handle.specs.declared.kind.Kind.{Kind}
use Rattle.tk_handle.specs.declared.kind.Kind.TheVariants as kind
use Rattle.tk_handle.specs.declared.token_id.TokenId.{TokenId}
use Rattle.tk_fact.specs.declared.client_kind.ClientKind.{ClientKind}
use Rattle.tk_fact.specs.declared.client_kind.ClientKind.TheVariants.{Public, Confidential}
use Rattle.tk_fact.specs.declared.client_kind.ClientKind.TheVariants.{Resource, Keeping}
use Rattle.tk_fact.specs.declared.token_revoked.TokenRevoked.{TokenRevoked}
use Rattle.tk_store.specs.FactSet.{FactSet}
use Rattle.tk_store.specs.StoreFields.{StoreFields, held_facts}
use Rattle.tk_ledger.specs.Alike.{is_closed, IsLost, AnsweredAlike}
use Rattle.tk_ledger.specs.Bodies.{is_same_dot}
use Rattle.tk_ledger.specs.Status.{status_here, digest_of, is_live}
use Rattle.tk_ledger.specs.Tokens.{is_revoked}
use Rattle.tk_ledger.specs.ViewFields.{ClientFields}
use Rattle.tk_ledger.specs.Views.{client_view}
use Rattle.tk_ledger.specs.declared.status.State.{State}
use Rattle.tk_ledger.specs.declared.status.State.TheVariants as state
use Rattle.tk_ledger.specs.declared.status.Status.{Status}
use Rattle.tk_ledger.specs.declared.status.Status.TheVariants.{Unseen, Wrong, Broken, Known}
use Rattle.tk_params.specs.Params.{Pairs, value_of}
use Rattle.tk_message.specs.Caller.{caller_of}
use Rattle.tk_message.specs.Decision.{answered}
use Rattle.tk_message.specs.Reply.{empty_reply}
use Rattle.tk_message.specs.RequestFields.{RequestFields}
use Rattle.tk_message.specs.declared.caller.Caller.{Caller}
use Rattle.tk_message.specs.declared.caller.Caller.TheVariants as caller
use Rattle.tk_message.specs.declared.choices.RefreshSeen.{RefreshSeen}
use Rattle.tk_message.specs.declared.choices.UnseenRevocation.{UnseenRevocation}
use Rattle.tk_message.specs.declared.decision.Decision.{Decision}
use Rattle.tk_message.specs.declared.place.Place.{Place}
use Rattle.tk_message.specs.declared.status_code.StatusCode.TheVariants.{Ok}
use Rattle.tk_query.specs.Anew.{IsEarly, AsksToRevoke, revoked_first, IsAnew}
use Rattle.tk_query.specs.Caller.{known_names}
use Rattle.tk_query.specs.Introspected.{sees, active, introspected_by_status, introspected_by_kind}
use Rattle.tk_query.specs.Introspected.{introspected_by_handle, introspected_by_text}
use Rattle.tk_query.specs.Introspected.{introspected_as, introspected_by_client}
use Rattle.tk_query.specs.Introspected.{introspected_by_caller}
use Rattle.tk_query.specs.Introspection.{told, introspection_of}
use Rattle.tk_query.specs.Revocation as whole
use Rattle.tk_query.specs.Revoked.{revocation_of, may_revoke_unseen, revoked_unless_held}
use Rattle.tk_query.specs.Revoked.{revoked_unseen, revoked_of_client, revoked_by_state}
use Rattle.tk_query.specs.Revoked.{revoked_by_status, is_own, revoked_by_kind, revoked_by_handle}
use Rattle.tk_query.specs.Revoked.{revoked_by_text, revoked_by_caller}
use Rattle.tk_query.specs.declared.idle.Idle.TheVariants as idle
use Rattle.tk_query.specs.declared.introspected.Introspected.TheVariants.{Inactive}
use Rattle.tk_query.specs.declared.refusal.Refusal.TheVariants as refusal
use Rattle.tk_query.specs.declared.revoked.Revocation.{Revocation}
use Rattle.tk_query.specs.declared.revoked.Revocation.TheVariants.{Refused, Done, Revokes, Later}
use Rattle.tk_query.proofs.ActiveLaws.{second_fails}

-- ---- introspection

-- a closed state is not live
closed_asleep : (x : State) → is_closed x ≡ true → is_live x ≡ false
closed_asleep state.Dead h = refl
closed_asleep state.Withdrawn h = refl
closed_asleep state.Over h = refl
closed_asleep x h = absurd (true≢false (sym h))

-- a lost token is inactive
lost_inactive : (seen : RefreshSeen) (client_kind : ClientKind) (asker : Dot) (k : Kind) (now : ℕ)
    (h : Handle) (s : Status)
    → IsLost now h s → introspected_by_status seen client_kind asker k s ≡ Inactive
lost_inactive seen client_kind asker k now h Unseen lost = absurd lost
lost_inactive seen client_kind asker k now h Wrong lost = refl
lost_inactive seen client_kind asker k now h (Broken expiry) lost = refl
lost_inactive seen client_kind asker k now h (Known s) lost =
    second_fails (sees seen client_kind k asker s.client) (is_live s.state) Inactive (active k s)
    (closed_asleep s.state lost.0)

-- statuses that are answered alike are introspected alike
alike_told : (seen : RefreshSeen) (client_kind : ClientKind) (asker : Dot) (k : Kind) (now : ℕ)
    (h : Handle) (s r : Status)
    → AnsweredAlike now h s r
    → introspected_by_status seen client_kind asker k s
    ≡ introspected_by_status seen client_kind asker k r
alike_told seen client_kind asker k now h s r (inl same) =
    ap (introspected_by_status seen client_kind asker k) same
alike_told seen client_kind asker k now h s r (inr lost) =
    lost_inactive seen client_kind asker k now h s lost.0
    ∙ sym (lost_inactive seen client_kind asker k now h r lost.1)

module _ (P Q : StoreFields) (seen : RefreshSeen) (now : ℕ)
    (alike : (h : Handle) → AnsweredAlike now h (status_here P now h) (status_here Q now h)) where
  -- a handle of each kind is introspected alike by both stores
  told_by_kind : (client_kind : ClientKind) (asker : Dot) (h : Handle) (k : Kind)
      → introspected_by_kind P seen now client_kind asker h k
      ≡ introspected_by_kind Q seen now client_kind asker h k
  told_by_kind client_kind asker h kind.Code = refl
  told_by_kind client_kind asker h kind.Access =
      alike_told seen client_kind asker kind.Access now h (status_here P now h)
      (status_here Q now h) (alike h)
  told_by_kind client_kind asker h kind.Refresh =
      alike_told seen client_kind asker kind.Refresh now h (status_here P now h)
      (status_here Q now h) (alike h)

  told_by_handle : (client_kind : ClientKind) (asker : Dot) (o : Option Handle)
      → introspected_by_handle P seen now client_kind asker o
      ≡ introspected_by_handle Q seen now client_kind asker o
  told_by_handle client_kind asker None = refl
  told_by_handle client_kind asker (Some h) = told_by_kind client_kind asker h h.id.kind

  told_by_text : (client_kind : ClientKind) (asker : Dot) (o : Option (List ℕ))
      → introspected_by_text P seen now client_kind asker o
      ≡ introspected_by_text Q seen now client_kind asker o
  told_by_text client_kind asker None = refl
  told_by_text client_kind asker (Some text) = told_by_handle client_kind asker (handle_in text)

  told_as : (params : Pairs) (asker : Dot) (client_kind : ClientKind)
      → introspected_as P seen now params asker client_kind
      ≡ introspected_as Q seen now params asker client_kind
  told_as params asker Public = refl
  told_as params asker (Confidential digest) =
      told_by_text (Confidential digest) asker (value_of (codes "token") params)
  told_as params asker (Resource digest) =
      told_by_text (Resource digest) asker (value_of (codes "token") params)
  told_as params asker (Keeping digest) =
      told_by_text (Keeping digest) asker (value_of (codes "token") params)

  told_by_client : (params : Pairs) (asker : Dot) (o : Option ClientFields)
      → introspected_by_client P seen now params asker o
      ≡ introspected_by_client Q seen now params asker o
  told_by_client params asker None = refl
  told_by_client params asker (Some client) = told_as params asker client.client_kind

  -- a request is introspected alike by both stores, whoever sent it
  told_by_caller : ((d : Dot) → client_view (held_facts P) d ≡ client_view (held_facts Q) d)
      → (params : Pairs) (c : Caller)
      → introspected_by_caller P seen now params c ≡ introspected_by_caller Q seen now params c
  told_by_caller views params caller.DuplicateParameter = refl
  told_by_caller views params caller.MixedCredentials = refl
  told_by_caller views params caller.InvalidClient = refl
  told_by_caller views params (caller.Client asker) =
      told_by_client params asker (client_view (held_facts P) asker)
      ∙ ap (introspected_by_client Q seen now params asker) (views asker)

-- stores whose statuses, clients and callers are alike introspect alike
pub introspections_alike : (P Q : StoreFields) (seen : RefreshSeen) (now : ℕ)
    (request : RequestFields)
    → ((h : Handle) → AnsweredAlike now h (status_here P now h) (status_here Q now h))
    → ((d : Dot) → client_view (held_facts P) d ≡ client_view (held_facts Q) d)
    → caller_of (held_facts P) known_names request ≡ caller_of (held_facts Q) known_names request
    → introspection_of P seen now request ≡ introspection_of Q seen now request
introspections_alike P Q seen now request alike views same =
    ap (λ (c : Caller). told (introspected_by_caller P seen now request.params c)) same
    ∙ ap told
    (told_by_caller P Q seen now alike views request.params
    (caller_of (held_facts Q) known_names request))

-- ---- revocation

-- the decision by an outcome
abbrev decides : Revocation → Decision
decides = whole.revoked_by

-- revoking a lost token that is no code gets the empty reply
past_done : (F : FactSet) (choice : UnseenRevocation) (own : Bool) (now : ℕ) (fact : TokenRevoked)
    (h : Handle) (s : Status)
    → h.id.kind ≢ kind.Code → IsLost now h s
    → decides (revoked_by_status F choice own now fact s) ≡ answered (empty_reply Ok)
past_done F choice own now fact h Unseen other lost = absurd lost
past_done F choice own now fact h Wrong other lost = refl
past_done F choice own now fact h (Broken expiry) other lost =
    ap (λ t. decides (cond t (Done idle.Past) (revoked_unless_held F fact)))
    (le-leb expiry now lost.1)
past_done F choice own now fact h (Known s) other lost =
    ap (λ t. decides (cond t (Done idle.Past) (revoked_by_state F fact s.client s.state)))
    (le-leb s.expiry now (lost.1 other))

module _ (F G : FactSet) (fact : TokenRevoked)
    (held : is_revoked F fact.token fact.digest fact.client
    ≡ is_revoked G fact.token fact.digest fact.client) where
  unless_same : revoked_unless_held F fact ≡ revoked_unless_held G fact
  unless_same = ap (λ t. cond t (Done idle.Revoked) (Revokes fact)) held

  of_client_same : (client : Dot)
      → revoked_of_client F fact client ≡ revoked_of_client G fact client
  of_client_same client = ap (λ (x : Revocation).
      cond (is_same_dot client fact.client) x (Refused refusal.ForeignToken)) unless_same

  -- a revocation is judged alike by both sets, in each state of its token
  by_state_same : (client : Dot) (x : State)
      → revoked_by_state F fact client x ≡ revoked_by_state G fact client x
  by_state_same client state.Dead = refl
  by_state_same client state.Withdrawn = of_client_same client
  by_state_same client state.Over = of_client_same client
  by_state_same client state.Used = of_client_same client
  by_state_same client state.Past = of_client_same client
  by_state_same client state.Ended = of_client_same client
  by_state_same client state.Live = of_client_same client

  -- the revocation of a token that was never seen is judged alike by both sets
  unseen_same : client_view F fact.client ≡ client_view G fact.client → (choice : UnseenRevocation)
      → revoked_unseen F choice fact ≡ revoked_unseen G choice fact
  unseen_same viewed choice =
      ap (λ (o : Option ClientFields).
      cond (may_revoke_unseen choice o) (revoked_unless_held F fact)
      (cond (is_revoked F fact.token fact.digest fact.client) (Done idle.Revoked) Later)) viewed
      ∙ ap (λ t. cond (may_revoke_unseen choice (client_view G fact.client))
      (cond t (Done idle.Revoked) (Revokes fact)) (cond t (Done idle.Revoked) Later)) held

-- the outcome by facts that have no revocation of the token
unseen_first : (F G : FactSet) (fact : TokenRevoked)
    → is_revoked F fact.token fact.digest fact.client ≡ false
    → client_view F fact.client ≡ client_view G fact.client → (choice : UnseenRevocation)
    → revoked_unseen F choice fact ≡ revoked_first choice (client_view G fact.client) fact
unseen_first F G fact none viewed choice =
    ap (λ t. cond (may_revoke_unseen choice (client_view F fact.client))
    (cond t (Done idle.Revoked) (Revokes fact)) (cond t (Done idle.Revoked) Later)) none
    ∙ ap (λ (o : Option ClientFields). cond (may_revoke_unseen choice o) (Revokes fact) Later)
    viewed

module _ (P Q : StoreFields) (place : Place) (now : ℕ)
    (alike : (h : Handle) → AnsweredAlike now h (status_here P now h) (status_here Q now h))
    (within : (k : TokenId) (digest : List ℕ) (client : Dot)
    → is_revoked (held_facts P) k digest client ≡ true
    → is_revoked (held_facts Q) k digest client ≡ true)
    (held : (h : Handle) (digest : List ℕ) (client : Dot) → h.id.kind ≢ kind.Code
    → IsEarly now (status_here P now h)
    → is_revoked (held_facts P) h.id digest client ≡ is_revoked (held_facts Q) h.id digest client)
    (views : (d : Dot) → client_view (held_facts P) d ≡ client_view (held_facts Q) d)
    (request : RequestFields) where
  -- the decisions are equal, or the one by P is that of a first revocation
  abbrev Alike : Decision → Decision → Type 0
  Alike d e = (d ≡ e) ⊎ IsAnew Q place now request d

  module _ (client : Dot) (h : Handle) (asks : AsksToRevoke Q request client h)
      (other : h.id.kind ≢ kind.Code) where
    abbrev fact : TokenRevoked
    fact = revocation_of h h.id.kind client

    abbrev held_by : StoreFields → Bool
    held_by R = is_revoked (held_facts R) h.id (digest_of h) client

    abbrev outcome : StoreFields → Status → Decision
    outcome R s = decides
        (revoked_by_status (held_facts R) place.choices.unseen (is_own place.number h) now fact s)

    same_held : (b : Bool) → held_by P ≡ b
        → held_by P ≡ held_by Q ⊎ ((held_by P ≡ false) × (held_by Q ≡ true))
    same_held true is = inl (is ∙ sym (within h.id (digest_of h) client is))
    same_held false is = elim (cases_Bool (held_by Q)) [
      | inl before ↦ inr (is, before)
      | inr none ↦ inl (is ∙ sym none)
    ]

    -- the revocation of an unseen token is decided alike, or is a first one by P
    unseen_alike : (own : Bool) → is_own place.number h ≡ own → status_here Q now h ≡ Unseen
        → Alike (decides
        (cond own (Done idle.NeverMinted)
        (revoked_unseen (held_facts P) place.choices.unseen fact)))
        (decides
        (cond own (Done idle.NeverMinted)
        (revoked_unseen (held_facts Q) place.choices.unseen fact)))
    unseen_alike true own unseen = inl refl
    unseen_alike false own unseen = elim (same_held (held_by P) refl) [
      | inl same ↦ inl
          (ap decides
          (unseen_same (held_facts P) (held_facts Q) fact same (views client) place.choices.unseen))
      | inr differ ↦ inr (record {
        client = client;
        handle = h;
        asks = asks;
        revocable = other;
        foreign = own;
        unseen = unseen;
        before = differ.1;
        decided = ap decides
            (unseen_first (held_facts P) (held_facts Q) fact differ.0
            (views client) place.choices.unseen);
      })
    ]

    by_same : (s : Status) → status_here P now h ≡ s → status_here Q now h ≡ s
        → Alike (outcome P s) (outcome Q s)
    by_same Wrong p q = inl refl
    by_same Unseen p q = unseen_alike (is_own place.number h) refl q
    by_same (Broken expiry) p q = by (nat_le expiry now) refl
      where
        by : (t : Bool) → nat_le expiry now ≡ t
            → Alike (decides (cond t (Done idle.Past) (revoked_unless_held (held_facts P) fact)))
            (decides (cond t (Done idle.Past) (revoked_unless_held (held_facts Q) fact)))
        by true past = inl refl
        by false past = inl
            (ap decides
            (unless_same (held_facts P) (held_facts Q) fact
            (held h (digest_of h) client other
            (subst (IsEarly now) (sym p) (leb-false expiry now past)))))
    by_same (Known s) p q = by (nat_le s.expiry now) refl
      where
        by : (t : Bool) → nat_le s.expiry now ≡ t
            → Alike (decides
            (cond t (Done idle.Past) (revoked_by_state (held_facts P) fact s.client s.state)))
            (decides
            (cond t (Done idle.Past) (revoked_by_state (held_facts Q) fact s.client s.state)))
        by true past = inl refl
        by false past = inl
            (ap decides
            (by_state_same (held_facts P) (held_facts Q) fact
            (held h (digest_of h) client other
            (subst (IsEarly now) (sym p) (leb-false s.expiry now past))) s.client s.state))

    -- a revocation is decided alike by statuses that are answered alike, or is a first one by P
    by_status : AnsweredAlike now h (status_here P now h) (status_here Q now h)
        → Alike (outcome P (status_here P now h)) (outcome Q (status_here Q now h))
    by_status (inl same) = subst (λ (s : Status).
        Alike (outcome P (status_here P now h)) (outcome Q s)) same
        (by_same (status_here P now h) refl (sym same))
    by_status (inr lost) = inl (
        past_done (held_facts P) place.choices.unseen (is_own place.number h) now fact h
        (status_here P now h) other lost.0
        ∙ sym (past_done (held_facts Q) place.choices.unseen (is_own place.number h) now fact h
        (status_here Q now h) other lost.1))

  -- the outcome by the handle's own kind
  abbrev by_own : StoreFields → Dot → Handle → Kind → Decision
  by_own R client h k = decides (revoked_by_kind R place now client h k)

  by_kind : (client : Dot) (h : Handle) → AsksToRevoke Q request client h → (k : Kind)
      → h.id.kind ≡ k → Alike (by_own P client h k) (by_own Q client h k)
  by_kind client h asks kind.Code is = inl refl
  by_kind client h asks kind.Access is =
      subst (λ (k : Kind).
      Alike (decides
      (revoked_by_status (held_facts P) place.choices.unseen (is_own place.number h) now
      (revocation_of h k client) (status_here P now h)))
      (decides
      (revoked_by_status (held_facts Q) place.choices.unseen (is_own place.number h) now
      (revocation_of h k client) (status_here Q now h)))) is
      (by_status client h asks (λ code. (let e : kind.Access ≡ kind.Code = sym is ∙ code in cc))
      (alike h))
  by_kind client h asks kind.Refresh is =
      subst (λ (k : Kind).
      Alike (decides
      (revoked_by_status (held_facts P) place.choices.unseen (is_own place.number h) now
      (revocation_of h k client) (status_here P now h)))
      (decides
      (revoked_by_status (held_facts Q) place.choices.unseen (is_own place.number h) now
      (revocation_of h k client) (status_here Q now h)))) is
      (by_status client h asks (λ code. (let e : kind.Refresh ≡ kind.Code = sym is ∙ code in cc))
      (alike h))

  module _ (client : Dot)
      (sender : caller_of (held_facts Q) known_names request ≡ caller.Client client) where
    by_handle : (text : List ℕ) → value_of (codes "token") request.params ≡ Some text
        → (o : Option Handle) → handle_in text ≡ o
        → Alike (decides (revoked_by_handle P place now client o))
        (decides (revoked_by_handle Q place now client o))
    by_handle text named None reads = inl refl
    by_handle text named (Some h) reads = by_kind client h
        (record { sender = sender; text = text; named = named; reads = reads }) h.id.kind refl

    by_text : (o : Option (List ℕ)) → value_of (codes "token") request.params ≡ o
        → Alike (decides (revoked_by_text P place now client o))
        (decides (revoked_by_text Q place now client o))
    by_text None named = inl refl
    by_text (Some text) named = by_handle text named (handle_in text) refl

  -- a revocation request is decided alike, whoever sent it, or is a first one by P
  by_caller : (c : Caller) → caller_of (held_facts Q) known_names request ≡ c
      → Alike (decides (revoked_by_caller P place now request.params c))
      (decides (revoked_by_caller Q place now request.params c))
  by_caller caller.DuplicateParameter sender = inl refl
  by_caller caller.MixedCredentials sender = inl refl
  by_caller caller.InvalidClient sender = inl refl
  by_caller (caller.Client client) sender =
      by_text client sender (value_of (codes "token") request.params) refl

-- stores whose statuses, clients and callers are alike revoke alike, or revoke anew
pub revocations_alike : (P Q : StoreFields) (place : Place) (now : ℕ) (request : RequestFields)
    → ((h : Handle) → AnsweredAlike now h (status_here P now h) (status_here Q now h))
    → ((k : TokenId) (digest : List ℕ) (client : Dot)
    → is_revoked (held_facts P) k digest client ≡ true
    → is_revoked (held_facts Q) k digest client ≡ true)
    → ((h : Handle) (digest : List ℕ) (client : Dot) → h.id.kind ≢ kind.Code
    → IsEarly now (status_here P now h)
    → is_revoked (held_facts P) h.id digest client ≡ is_revoked (held_facts Q) h.id digest client)
    → ((d : Dot) → client_view (held_facts P) d ≡ client_view (held_facts Q) d)
    → caller_of (held_facts P) known_names request ≡ caller_of (held_facts Q) known_names request
    → (whole.revocation_of P place now request ≡ whole.revocation_of Q place now request)
    ⊎ IsAnew Q place now request (whole.revocation_of P place now request)
revocations_alike P Q place now request alike within held views same =
    subst (λ (c : Caller).
    (decides (revoked_by_caller P place now request.params c)
    ≡ whole.revocation_of Q place now request)
    ⊎ IsAnew Q place now request (decides (revoked_by_caller P place now request.params c)))
    (sym same)
    (by_caller P Q place now alike within held views request
    (caller_of (held_facts Q) known_names request) refl)
