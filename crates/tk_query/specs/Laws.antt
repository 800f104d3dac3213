-- The law of introspection, by the definition of an active token (RFC 7662, 2.2). The clauses of
-- `says_active` are:
--   SaysActive     the reply reports an active token that the sender may see
--   SaysNothing    the reply to any sender reports no other token
--   HidesRefresh   the reply to a resource server reports no refresh token, if it sees none
-- The clauses of `queries_alike`, of two stores that answer each handle alike:
--   IntrospectionsAlike   they give equal replies to introspection requests
--   RevocationsAlike      they decide revocation requests alike, or one as if it was the first
use Rattle.std.specs.Prelude.{◌≡◌, ◌≢◌, ◌⊎◌, ℕ, List, Some, true}
use Rattle.std.specs.FinMap as map
use Rattle.tk_handle.specs.declared.dot.Dot.{Dot}
use Rattle.tk_handle.specs.declared.kind.Kind.{Kind}
use Rattle.tk_handle.specs.declared.kind.Kind.TheVariants as kind
use Rattle.tk_handle.specs.declared.handle.Handle.{Handle}
use Rattle.tk_handle.specs.declared.token_id.TokenId.{TokenId}
use Rattle.tk_fact.specs.declared.client_kind.ClientKind.{ClientKind}
use Rattle.tk_fact.specs.declared.client_kind.ClientKind.TheVariants.{Resource}
use Rattle.tk_store.specs.StoreFields.{StoreFields, held_facts}
use Rattle.tk_ledger.specs.Alike.{AnsweredAlike}
use Rattle.tk_ledger.specs.Status.{status_here, IsActive}
use Rattle.tk_ledger.specs.Tokens.{is_revoked}
use Rattle.tk_ledger.specs.Views.{client_view}
use Rattle.tk_message.specs.declared.status_code.StatusCode.TheVariants.{Ok}
use Rattle.tk_message.specs.Bodies.{access_body, refresh_body}
use Rattle.tk_message.specs.Reply.{inactive_reply, json_reply}
use Rattle.tk_message.specs.Caller.{caller_of}
use Rattle.tk_message.specs.ReplyFields.{ReplyFields}
use Rattle.tk_message.specs.RequestFields.{RequestFields}
use Rattle.tk_message.specs.declared.choices.RefreshSeen.{RefreshSeen}
use Rattle.tk_message.specs.declared.choices.RefreshSeen.TheVariants.{ByClient}
use Rattle.tk_message.specs.declared.place.Place.{Place}
use Rattle.tk_query.specs.Anew.{IsAnew, IsEarly}
use Rattle.tk_query.specs.Caller.{known_names}
use Rattle.tk_query.specs.Revocation.{revocation_of}
use Rattle.tk_query.specs.Introspected.{introspected_by_handle, sees}
use Rattle.tk_query.specs.Introspection.{told, introspection_of}

-- the reply for an active token of the kind (RFC 7662, 2.2): a code is never active (own)
abbrev pub told_by_kind : Kind → Dot → ℕ → ℕ → List ℕ → List ℕ → ReplyFields
told_by_kind kind.Code client expiry start scope subject = inactive_reply
told_by_kind kind.Access client expiry start scope subject =
    json_reply Ok (access_body client expiry start scope subject)
told_by_kind kind.Refresh client expiry start scope subject =
    json_reply Ok (refresh_body client expiry start scope subject)

-- the reply to a client of the given kind for a handle (RFC 7662, 2.2)
abbrev pub told_to : StoreFields → RefreshSeen → ℕ → ClientKind → Dot → Handle → ReplyFields
told_to P seen now client_kind asker h =
    told (introspected_by_handle P seen now client_kind asker (Some h))

-- the reply for an active token that the sender may see has the client and subject of the code, and
-- the expiry, start and scope of the fact that minted the token (RFC 7662, 2.2)
abbrev pub SaysActive : Type 0
SaysActive =
    (P : StoreFields) (seen : RefreshSeen) (now : ℕ) (client_kind : ClientKind) (asker : Dot)
    (h : Handle) (a : IsActive (map.get (held_facts P)) now h)
    → sees seen client_kind h.id.kind asker a.issued.client ≡ true
    → told_to P seen now client_kind asker h ≡ told_by_kind h.id.kind a.issued.client
    a.minted.expiry a.minted.start a.minted.scope a.issued.subject

-- the reply for a token that is not active is that it is not, whoever asks (RFC 7662, 2.2)
abbrev pub SaysNothing : Type 0
SaysNothing =
    (P : StoreFields) (seen : RefreshSeen) (now : ℕ) (client_kind : ClientKind) (asker : Dot)
    (h : Handle) → ¬ IsActive (map.get (held_facts P)) now h
    → told_to P seen now client_kind asker h ≡ inactive_reply

-- if the client that a refresh token is of sees it alone, the reply to a resource server is that it
-- is not active, whether or not it is (own)
abbrev pub HidesRefresh : Type 0
HidesRefresh = (P : StoreFields) (now : ℕ) (digest : List ℕ) (asker : Dot) (h : Handle)
    → h.id.kind ≡ kind.Refresh → told_to P ByClient now (Resource digest) asker h ≡ inactive_reply

-- ---- two stores that answer each handle alike

-- two stores that answer each handle alike, and have the same clients, give equal replies to an
-- introspection request (own)
abbrev pub IntrospectionsAlike : Type 0
IntrospectionsAlike = (P Q : StoreFields) (seen : RefreshSeen) (now : ℕ) (request : RequestFields)
    → ((h : Handle) → AnsweredAlike now h (status_here P now h) (status_here Q now h))
    → ((d : Dot) → client_view (held_facts P) d ≡ client_view (held_facts Q) d)
    → caller_of (held_facts P) known_names request ≡ caller_of (held_facts Q) known_names request
    → introspection_of P seen now request ≡ introspection_of Q seen now request

-- P and Q answer each handle alike, and have the same clients. Q has each revocation that P has,
-- and P has each one that Q has of a token that is known and hasn't expired. Then they decide a
-- revocation request alike, unless the token is not seen and Q alone has its revocation: there P
-- decides as if it was the first (own)
abbrev pub RevocationsAlike : Type 0
RevocationsAlike = (P Q : StoreFields) (place : Place) (now : ℕ) (request : RequestFields)
    → ((h : Handle) → AnsweredAlike now h (status_here P now h) (status_here Q now h))
    → ((k : TokenId) (digest : List ℕ) (client : Dot)
    → is_revoked (held_facts P) k digest client ≡ true
    → is_revoked (held_facts Q) k digest client ≡ true)
    → ((h : Handle) (digest : List ℕ) (client : Dot) → h.id.kind ≢ kind.Code
    → IsEarly now (status_here P now h)
    → is_revoked (held_facts P) h.id digest client ≡ is_revoked (held_facts Q) h.id digest client)
    → ((d : Dot) → client_view (held_facts P) d ≡ client_view (held_facts Q) d)
    → caller_of (held_facts P) known_names request ≡ caller_of (held_facts Q) known_names request
    → (revocation_of P place now request ≡ revocation_of Q place now request)
    ⊎ IsAnew Q place now request (revocation_of P place now request)
