-- The outcome of introspection: the first case that holds (RFC 7662, 2.1 and 2.2). The facts, the
-- region's choice of who sees refresh tokens, the moment and the request determine the outcome.
--   shows_refresh            resource servers see refresh tokens
--   servers_see              resource servers see tokens of a kind
--   sees                     a client may see tokens of another client
--   introspected_by_caller   the outcome for the sender of a request
use Rattle.std.specs.Prelude.{
  ℕ,
  Bool,
  true,
  false,
  ◌||◌,
  not,
  List,
  codes,
  Option,
  Some,
  None,
  if◌then◌else◌,
}
use Rattle.tk_handle.specs.declared.dot.Dot.{Dot}
use Rattle.tk_handle.specs.declared.kind.Kind.{Kind}
use Rattle.tk_handle.specs.declared.kind.Kind.TheVariants as kind
use Rattle.tk_handle.specs.declared.handle.Handle.{Handle}
use Rattle.tk_handle.specs.Handle.{handle_in}
use Rattle.tk_fact.specs.declared.client_kind.ClientKind.{ClientKind}
use Rattle.tk_fact.specs.declared.client_kind.ClientKind.TheVariants.{
  Public,
  Confidential,
  Resource,
  Keeping,
}
use Rattle.tk_store.specs.StoreFields.{StoreFields, held_facts}
use Rattle.tk_ledger.specs.Bodies.{is_same_dot}
use Rattle.tk_ledger.specs.Views.{client_view}
use Rattle.tk_ledger.specs.ViewFields.{ClientFields}
use Rattle.tk_ledger.specs.Status.{is_live, status_here}
use Rattle.tk_ledger.specs.StandingFields.{StandingFields}
use Rattle.tk_ledger.specs.declared.status.Status.{Status}
use Rattle.tk_ledger.specs.declared.status.Status.TheVariants.{Unseen, Wrong, Broken, Known}
use Rattle.tk_params.specs.Params.{Pairs, value_of}
use Rattle.tk_message.specs.declared.caller.Caller.{Caller}
use Rattle.tk_message.specs.declared.caller.Caller.TheVariants as caller
use Rattle.tk_message.specs.declared.choices.RefreshSeen.{RefreshSeen}
use Rattle.tk_message.specs.declared.choices.RefreshSeen.TheVariants.{ByAll, ByClient}
use Rattle.tk_query.specs.declared.introspected.Introspected.{Introspected}
use Rattle.tk_query.specs.declared.introspected.Introspected.TheVariants.{
  Refused,
  Inactive,
  Access,
  Refresh,
}
use Rattle.tk_query.specs.declared.refusal.Refusal.TheVariants as refusal

-- resource servers see refresh tokens, too (own; RFC 7662, 2.2 leaves it open)
abbrev pub shows_refresh : RefreshSeen → Bool
shows_refresh ByAll = true
shows_refresh ByClient = false

-- resource servers see tokens of the kind: access tokens, and refresh tokens by the region's choice
-- (own)
abbrev pub servers_see : RefreshSeen → Kind → Bool
servers_see seen kind.Code = true
servers_see seen kind.Access = true
servers_see seen kind.Refresh = shows_refresh seen

-- a client may see tokens of the kind of the other client: a resource server sees those of every
-- client, another client its own (RFC 7662, 2.1; who sees what is own)
abbrev pub sees : RefreshSeen → ClientKind → Kind → Dot → Dot → Bool
sees seen Public k asker client = false
sees seen (Confidential digest) k asker client = is_same_dot client asker
sees seen (Resource digest) k asker client = servers_see seen k
sees seen (Keeping digest) k asker client = is_same_dot client asker

-- the outcome for a token that is live (RFC 7662, 2.2): a code is never active (own)
abbrev pub active : Kind → StandingFields → Introspected
active kind.Code s = Inactive
active kind.Access s = Access s
active kind.Refresh s = Refresh s

-- the outcome by the token's standing: a token that the sender may not see, or that is not live, is
-- inactive (RFC 7662, 2.2)
abbrev pub introspected_by_standing : RefreshSeen → ClientKind → Dot → Kind → StandingFields
    → Introspected
introspected_by_standing seen client_kind asker k s =
    if not (sees seen client_kind k asker s.client) || not (is_live s.state) then Inactive
    else active k s

-- the outcome by the token's status: an unknown token is inactive (RFC 7662, 2.2)
abbrev pub introspected_by_status : RefreshSeen → ClientKind → Dot → Kind → Status → Introspected
introspected_by_status seen client_kind asker k Unseen = Inactive
introspected_by_status seen client_kind asker k Wrong = Inactive
introspected_by_status seen client_kind asker k (Broken expiry) = Inactive
introspected_by_status seen client_kind asker k (Known s) =
    introspected_by_standing seen client_kind asker k s

-- the outcome by the kind of the handle (RFC 7662, 2.2): a code is inactive (own)
abbrev pub introspected_by_kind : StoreFields → RefreshSeen → ℕ → ClientKind → Dot → Handle → Kind
    → Introspected
introspected_by_kind P seen now client_kind asker h kind.Code = Inactive
introspected_by_kind P seen now client_kind asker h kind.Access =
    introspected_by_status seen client_kind asker kind.Access (status_here P now h)
introspected_by_kind P seen now client_kind asker h kind.Refresh =
    introspected_by_status seen client_kind asker kind.Refresh (status_here P now h)

-- the outcome by the handle: a text that is no handle is inactive (RFC 7662, 2.2)
abbrev pub introspected_by_handle : StoreFields → RefreshSeen → ℕ → ClientKind → Dot → Option Handle
    → Introspected
introspected_by_handle P seen now client_kind asker None = Inactive
introspected_by_handle P seen now client_kind asker (Some h) =
    introspected_by_kind P seen now client_kind asker h h.id.kind

-- the outcome by the token's text, which is required (RFC 7662, 2.1)
abbrev pub introspected_by_text : StoreFields → RefreshSeen → ℕ → ClientKind → Dot → Option (List ℕ)
    → Introspected
introspected_by_text P seen now client_kind asker None = Refused refusal.MissingToken
introspected_by_text P seen now client_kind asker (Some text) =
    introspected_by_handle P seen now client_kind asker (handle_in text)

-- the outcome for a client by its kind: a public client has proved nothing and is refused (RFC
-- 7662, 2.1)
abbrev pub introspected_as : StoreFields → RefreshSeen → ℕ → Pairs → Dot → ClientKind → Introspected
introspected_as P seen now params asker Public = Refused refusal.PublicClient
introspected_as P seen now params asker (Confidential digest) =
    introspected_by_text P seen now (Confidential digest) asker (value_of (codes "token") params)
introspected_as P seen now params asker (Resource digest) =
    introspected_by_text P seen now (Resource digest) asker (value_of (codes "token") params)
introspected_as P seen now params asker (Keeping digest) =
    introspected_by_text P seen now (Keeping digest) asker (value_of (codes "token") params)

-- the outcome for an authenticated client (RFC 7662, 2.1). Such a client was added: `None` never
-- happens
abbrev pub introspected_by_client : StoreFields → RefreshSeen → ℕ → Pairs → Dot
    → Option ClientFields → Introspected
introspected_by_client P seen now params asker None = Refused refusal.InvalidClient
introspected_by_client P seen now params asker (Some client) =
    introspected_as P seen now params asker client.client_kind

-- the outcome for the sender: no parameter that the endpoint knows may occur twice, no credentials
-- in two places, and a client must be authenticated (RFC 6749, 2.3 and 3.2; RFC 7662, 2.3)
abbrev pub introspected_by_caller : StoreFields → RefreshSeen → ℕ → Pairs → Caller → Introspected
introspected_by_caller P seen now params caller.DuplicateParameter =
    Refused refusal.DuplicateParameter
introspected_by_caller P seen now params caller.MixedCredentials =
    Refused refusal.MixedCredentials
introspected_by_caller P seen now params caller.InvalidClient = Refused refusal.InvalidClient
introspected_by_caller P seen now params (caller.Client asker) =
    introspected_by_client P seen now params asker (client_view (held_facts P) asker)
