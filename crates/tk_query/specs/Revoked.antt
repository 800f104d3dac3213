-- The outcome of revocation: the first case that holds (RFC 7009, 2.1 and 2.2).
--   revocation_of       the fact that a client revoked a handle's token
--   may_revoke_unseen   a client may revoke a token that the region has not seen
--   is_own              a token would be of the region with a number
--   revoked_by_caller   the outcome for the sender of a request
use Rattle.std.specs.Prelude.{
  ℕ,
  Bool,
  true,
  false,
  ◌==◌,
  nat_le,
  List,
  codes,
  Option,
  Some,
  None,
  if◌then◌else◌,
}
use Rattle.tk_handle.specs.declared.dot.Dot.{Dot}
use Rattle.tk_handle.specs.declared.kind.Kind.{Kind}
use Rattle.tk_handle.specs.declared.kind.Kind.TheVariants as kind
use Rattle.tk_handle.specs.declared.handle.Handle.{Handle}
use Rattle.tk_handle.specs.Handle.{handle_in}
use Rattle.tk_fact.specs.declared.client_kind.ClientKind.{ClientKind}
use Rattle.tk_fact.specs.declared.client_kind.ClientKind.TheVariants.{
  Public,
  Confidential,
  Resource,
  Keeping,
}
use Rattle.tk_fact.specs.declared.token_revoked.TokenRevoked.{TokenRevoked}
use Rattle.tk_store.specs.FactSet.{FactSet}
use Rattle.tk_store.specs.StoreFields.{StoreFields, held_facts}
use Rattle.tk_ledger.specs.Bodies.{is_same_dot}
use Rattle.tk_ledger.specs.Status.{status_here, digest_of}
use Rattle.tk_ledger.specs.Tokens.{is_revoked}
use Rattle.tk_ledger.specs.ViewFields.{ClientFields}
use Rattle.tk_ledger.specs.Views.{client_view}
use Rattle.tk_ledger.specs.declared.status.State.{State}
use Rattle.tk_ledger.specs.declared.status.State.TheVariants as state
use Rattle.tk_ledger.specs.declared.status.Status.{Status}
use Rattle.tk_ledger.specs.declared.status.Status.TheVariants.{Unseen, Wrong, Broken, Known}
use Rattle.tk_params.specs.Params.{Pairs, value_of}
use Rattle.tk_message.specs.declared.caller.Caller.{Caller}
use Rattle.tk_message.specs.declared.caller.Caller.TheVariants as caller
use Rattle.tk_message.specs.declared.choices.UnseenRevocation.{UnseenRevocation}
use Rattle.tk_message.specs.declared.choices.UnseenRevocation.TheVariants.{
  Any,
  Authenticated,
  Nobody,
}
use Rattle.tk_message.specs.declared.place.Place.{Place}
use Rattle.tk_query.specs.declared.idle.Idle.TheVariants as idle
use Rattle.tk_query.specs.declared.refusal.Refusal.TheVariants as refusal
use Rattle.tk_query.specs.declared.revoked.Revocation.{Revocation}
use Rattle.tk_query.specs.declared.revoked.Revocation.TheVariants.{Refused, Done, Revokes, Later}

-- the fact that the client revoked the token of the kind at the handle's dot, by the handle's
-- digest (own)
abbrev pub revocation_of : Handle → Kind → Dot → TokenRevoked
revocation_of h k client =
    record {
      token = record { dot = h.id.dot; kind = k };
      digest = digest_of h;
      client = client;
      by = None;
    }

-- the outcome by the facts: a client revokes a token once (RFC 7009, 2.2)
abbrev pub revoked_unless_held : FactSet → TokenRevoked → Revocation
revoked_unless_held F fact =
    if is_revoked F fact.token fact.digest fact.client then Done idle.Revoked else Revokes fact

-- a client of the kind proved a secret (RFC 6749, 2.1)
abbrev pub proves_secret : ClientKind → Bool
proves_secret Public = false
proves_secret (Confidential digest) = true
proves_secret (Resource digest) = true
proves_secret (Keeping digest) = true

-- the sender proved a secret (own). A sender was added: `None` never happens
abbrev pub is_authenticated : Option ClientFields → Bool
is_authenticated None = false
is_authenticated (Some client) = proves_secret client.client_kind

-- the sender may revoke a token that the region has not seen: the region's choice (own)
abbrev pub may_revoke_unseen : UnseenRevocation → Option ClientFields → Bool
may_revoke_unseen Any sender = true
may_revoke_unseen Authenticated sender = is_authenticated sender
may_revoke_unseen Nobody sender = false

-- the outcome for a token of another region that this region has not seen. A sender that may not
-- revoke such a token may try again later (RFC 7009, 2.2.1), unless it revoked the token before
abbrev pub revoked_unseen : FactSet → UnseenRevocation → TokenRevoked → Revocation
revoked_unseen F choice fact =
    if may_revoke_unseen choice (client_view F fact.client) then revoked_unless_held F fact
    else (if is_revoked F fact.token fact.digest fact.client then Done idle.Revoked else Later)

-- the outcome by the token's client, which must be the sender (RFC 7009, 2.1)
abbrev pub revoked_of_client : FactSet → TokenRevoked → Dot → Revocation
revoked_of_client F fact client = if is_same_dot client fact.client then revoked_unless_held F fact
    else Refused refusal.ForeignToken

-- the outcome by the token's state: no token of a dead family is active, whoever asks (RFC 7009,
-- 2.2)
abbrev pub revoked_by_state : FactSet → TokenRevoked → Dot → State → Revocation
revoked_by_state F fact client state.Dead = Done idle.DeadFamily
revoked_by_state F fact client state.Withdrawn = revoked_of_client F fact client
revoked_by_state F fact client state.Over = revoked_of_client F fact client
revoked_by_state F fact client state.Used = revoked_of_client F fact client
revoked_by_state F fact client state.Past = revoked_of_client F fact client
revoked_by_state F fact client state.Ended = revoked_of_client F fact client
revoked_by_state F fact client state.Live = revoked_of_client F fact client

-- the outcome by the token's status. A handle whose dot has another token, or that would be of this
-- region and has no fact, was never minted; an expired token is past (RFC 7009, 2.2)
abbrev pub revoked_by_status : FactSet → UnseenRevocation → Bool → ℕ → TokenRevoked → Status
    → Revocation
revoked_by_status F choice is_own now fact Wrong = Done idle.WrongHandle
revoked_by_status F choice is_own now fact Unseen =
    if is_own then Done idle.NeverMinted else revoked_unseen F choice fact
revoked_by_status F choice is_own now fact (Broken expiry) =
    if nat_le expiry now then Done idle.Past else revoked_unless_held F fact
revoked_by_status F choice is_own now fact (Known s) =
    if nat_le s.expiry now then Done idle.Past else revoked_by_state F fact s.client s.state

-- the token would be of the region with the number (own)
abbrev pub is_own : ℕ → Handle → Bool
is_own number h = h.id.dot.region == number

-- the outcome by the kind of the handle: a code can't be revoked (RFC 7009, 2)
abbrev pub revoked_by_kind : StoreFields → Place → ℕ → Dot → Handle → Kind → Revocation
revoked_by_kind P place now client h kind.Code = Done idle.Code
revoked_by_kind P place now client h kind.Access =
    revoked_by_status (held_facts P) place.choices.unseen (is_own place.number h) now
    (revocation_of h kind.Access client) (status_here P now h)
revoked_by_kind P place now client h kind.Refresh =
    revoked_by_status (held_facts P) place.choices.unseen (is_own place.number h) now
    (revocation_of h kind.Refresh client) (status_here P now h)

-- the outcome by the handle: a text that is no handle is no token (RFC 7009, 2.2)
abbrev pub revoked_by_handle : StoreFields → Place → ℕ → Dot → Option Handle → Revocation
revoked_by_handle P place now client None = Done idle.NoHandle
revoked_by_handle P place now client (Some h) = revoked_by_kind P place now client h h.id.kind

-- the outcome by the token's text, which is required (RFC 7009, 2.1)
abbrev pub revoked_by_text : StoreFields → Place → ℕ → Dot → Option (List ℕ) → Revocation
revoked_by_text P place now client None = Refused refusal.MissingToken
revoked_by_text P place now client (Some text) =
    revoked_by_handle P place now client (handle_in text)

-- the outcome for the sender: no parameter that the endpoint knows may occur twice, no credentials
-- in two places, and a client must be authenticated (RFC 6749, 2.3 and 3.2; RFC 7009, 2.1)
abbrev pub revoked_by_caller : StoreFields → Place → ℕ → Pairs → Caller → Revocation
revoked_by_caller P place now params caller.DuplicateParameter = Refused refusal.DuplicateParameter
revoked_by_caller P place now params caller.MixedCredentials = Refused refusal.MixedCredentials
revoked_by_caller P place now params caller.InvalidClient = Refused refusal.InvalidClient
revoked_by_caller P place now params (caller.Client client) =
    revoked_by_text P place now client (value_of (codes "token") params)
