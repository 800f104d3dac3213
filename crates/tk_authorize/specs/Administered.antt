-- The judgement of an administration request: the cases of each endpoint, in their order (own;
-- RFC 6749, 2 for clients, 3.3 for scopes). That of a logout is in specs/Logouts, that of a change
-- of a secret in specs/SecretChanges.
--   registered_of     POST /admin/client
--   shown_of          GET /admin/client
--   retired_of        POST /admin/retire
--   consented_of      POST /admin/consent
--   withdrawn_of      POST /admin/withdraw
--   signed_out_of     POST /admin/signout
--   administered_of   the judgement by the endpoint
use Rattle.std.specs.Prelude.{
  ℕ,
  Bool,
  ◌==◌,
  List,
  [],
  ◌∷◌,
  codes,
  Option,
  Some,
  None,
  is_none,
  Result,
  Ok,
  Err,
  if◌then◌else◌,
}
use Rattle.std.specs.List.{slice_split}
use Rattle.std.specs.Str.{bytes_eq}
use Rattle.tk_handle.specs.declared.dot.Dot.{Dot}
use Rattle.tk_handle.specs.ClientId.{client_in}
use Rattle.tk_handle.specs.ConsentId.{consent_in}
use Rattle.tk_match.specs.Redirects.{client_refusal}
use Rattle.tk_scope.specs.Scope.{scope_of}
use Rattle.tk_fact.specs.declared.client_kind.ClientKind.{ClientKind}
use Rattle.tk_fact.specs.declared.client_kind.ClientKind.TheVariants.{
  Public,
  Confidential,
  Resource,
  Keeping,
}
use Rattle.tk_fact.specs.declared.client_lives.ClientLives.{ClientLives}
use Rattle.tk_fact.specs.Subject.{is_subject}
use Rattle.tk_store.specs.FactSet.{FactSet}
use Rattle.tk_ledger.specs.SignOuts.{is_signed_out}
use Rattle.tk_ledger.specs.Views.{client_view, consent_view}
use Rattle.tk_ledger.specs.ViewFields.{ClientFields, ConsentFields}
use Rattle.tk_params.specs.Params.{Pairs, value_of, has_twice}
use Rattle.tk_message.specs.declared.request.Endpoint.{Endpoint}
use Rattle.tk_message.specs.declared.request.Endpoint.TheVariants as endpoint
use Rattle.tk_message.specs.RequestFields.{RequestFields}
use Rattle.tk_message.specs.ScopeAsked.{scope_asked}
use Rattle.tk_authorize.specs.ClientParams.{client_asked, digest_asked}
use Rattle.tk_authorize.specs.Lives.{lives_sent, lives_allowed}
use Rattle.tk_authorize.specs.Logouts.{logged_out_of}
use Rattle.tk_authorize.specs.SecretChanges.{changed_of}
use Rattle.tk_authorize.specs.declared.admin_refusal.AdminRefusal.{AdminRefusal}
use Rattle.tk_authorize.specs.declared.admin_refusal.AdminRefusal.TheVariants.{
  DuplicateParameter,
  MissingParameter,
  UnknownKind,
  WrongRefresh,
  UnwantedSecret,
  MalformedScope,
  WrongRedirects,
  UnknownClient,
  MalformedSubject,
  WrongScope,
  UnknownConsent,
  UnknownEndpoint,
}
use Rattle.tk_authorize.specs.declared.administered.Administered.{Administered}
use Rattle.tk_authorize.specs.declared.administered.Administered.TheVariants.{
  Refused,
  Registers,
  Shows,
  Retires,
  Consents,
  Withdraws,
  AlreadyOut,
  SignsOut,
}

-- ---- add a client

-- the kind of a public client, for which no secret may be sent (RFC 6749, 2.1)
abbrev pub public_kind : Option (List ℕ) → Result ClientKind AdminRefusal
public_kind None = Ok Public
public_kind (Some secret) = Err UnwantedSecret

-- the kind of a confidential client, with the digest of its secret (RFC 6749, 2.1)
abbrev pub confidential_kind : Result (List ℕ) AdminRefusal → Result ClientKind AdminRefusal
confidential_kind (Err why) = Err why
confidential_kind (Ok digest) = Ok (Confidential digest)

-- the kind of a confidential client that keeps its refresh token, with the digest of its secret
-- (own; RFC 9700, 2.2.2)
abbrev pub keeping_kind : Result (List ℕ) AdminRefusal → Result ClientKind AdminRefusal
keeping_kind (Err why) = Err why
keeping_kind (Ok digest) = Ok (Keeping digest)

-- the kind of a confidential client by `refresh`, which may be `kept` (own; RFC 9700, 2.2.2)
abbrev pub refreshing_kind : Option (List ℕ) → Result (List ℕ) AdminRefusal
    → Result ClientKind AdminRefusal
refreshing_kind None digest = confidential_kind digest
refreshing_kind (Some refresh) digest =
    if bytes_eq refresh (codes "kept") then keeping_kind digest else Err WrongRefresh

-- the kind of a client that is not confidential, for which `refresh` may not be sent (own; RFC
-- 9700, 2.2.2)
abbrev pub rotating_kind : Option (List ℕ) → Result ClientKind AdminRefusal
    → Result ClientKind AdminRefusal
rotating_kind None kind = kind
rotating_kind (Some refresh) kind = Err WrongRefresh

-- the kind of a resource server, with the digest of its secret (own)
abbrev pub resource_kind : Result (List ℕ) AdminRefusal → Result ClientKind AdminRefusal
resource_kind (Err why) = Err why
resource_kind (Ok digest) = Ok (Resource digest)

-- a client's kind by its name and `refresh`, with the digest of the secret if the kind has one
-- (own)
abbrev pub client_kind_asked : List ℕ → Option (List ℕ) → Option (List ℕ)
    → Result ClientKind AdminRefusal
client_kind_asked kind refresh secret =
    if bytes_eq kind (codes "public") then rotating_kind refresh (public_kind secret)
    else if bytes_eq kind (codes "confidential") then refreshing_kind refresh (digest_asked secret)
    else if bytes_eq kind (codes "resource")
    then rotating_kind refresh (resource_kind (digest_asked secret))
    else Err UnknownKind

-- the byte between two redirection URIs (own)
abbrev pub is_space : ℕ → Bool
is_space b = b == 32

-- the redirection URIs, if the list may be registered: `Chosen` refuses more of them (RFC 6749,
-- 3.1.2.2)
abbrev pub registered : List (List ℕ) → Option (List (List ℕ))
registered uris = if is_none (client_refusal uris) then Some uris else None

-- the judgement of a new client by its redirection URIs, which must be a list to be registered (RFC
-- 6749, 3.1.2.2)
abbrev pub registered_to : ClientKind → Option ClientLives → List ℕ → Option (List (List ℕ))
    → Administered
registered_to client_kind lives scope None = Refused WrongRedirects
registered_to client_kind lives scope (Some uris) = Registers (record {
  client_kind = client_kind;
  scope = scope;
  redirects = uris;
  lives = lives;
  by = None;
})

-- the judgement of a new client by its scope, which must be readable (RFC 6749, 3.3)
abbrev pub registered_with : ClientKind → Option ClientLives → Option (List ℕ) → List ℕ
    → Administered
registered_with client_kind lives None redirects = Refused MalformedScope
registered_with client_kind lives (Some scope) redirects =
    registered_to client_kind lives scope (registered (slice_split is_space redirects))

-- the judgement of a new client by its lives, which a resource server may not have (own)
abbrev pub registered_for : ClientKind → Result (Option ClientLives) AdminRefusal → List ℕ
    → List ℕ → Administered
registered_for client_kind (Err why) scope redirects = Refused why
registered_for client_kind (Ok lives) scope redirects =
    registered_with client_kind lives (scope_of scope) redirects

-- the judgement of a new client by its kind, with the digest of its secret (own; RFC 6749, 2)
abbrev pub registered_as : Result ClientKind AdminRefusal
    → Result (Option ClientLives) AdminRefusal → List ℕ → List ℕ → Administered
registered_as (Err why) lives scope redirects = Refused why
registered_as (Ok client_kind) lives scope redirects =
    registered_for client_kind (lives_allowed client_kind lives) scope redirects

-- the judgement of a new client by its parameters: kind, scope and redirection URIs are required
-- (own; RFC 6749, 2)
abbrev pub registered_by : Option (List ℕ) → Option (List ℕ) → Option (List ℕ) → Option (List ℕ)
    → Option (List ℕ) → Result (Option ClientLives) AdminRefusal → Administered
registered_by None scope redirects refresh secret lives = Refused MissingParameter
registered_by (Some kind) None redirects refresh secret lives = Refused MissingParameter
registered_by (Some kind) (Some scope) None refresh secret lives = Refused MissingParameter
registered_by (Some kind) (Some scope) (Some redirects) refresh secret lives =
    registered_as (client_kind_asked kind refresh secret) lives scope redirects

-- the names of the parameters that POST /admin/client knows (own)
abbrev pub registration_names : List (List ℕ)
registration_names =
    codes "kind" ∷ codes "refresh" ∷ codes "secret" ∷ codes "scope" ∷ codes "redirects"
    ∷ codes "access_life" ∷ codes "refresh_life" ∷ codes "family_life" ∷ []

-- the judgement of POST /admin/client: no parameter that the endpoint knows may occur twice (own;
-- RFC 6749, 2)
abbrev pub registered_of : Pairs → Administered
registered_of params =
    if has_twice registration_names params then Refused DuplicateParameter
    else registered_by (value_of (codes "kind") params) (value_of (codes "scope") params)
    (value_of (codes "redirects") params) (value_of (codes "refresh") params)
    (value_of (codes "secret") params) (lives_sent params)

-- ---- the client that an id names: show it, retire it

-- the names of the parameters that GET /admin/client and POST /admin/retire know (own)
abbrev pub client_names : List (List ℕ)
client_names = codes "client_id" ∷ []

-- the dot of the client id in the parameters, which must not occur twice (own)
abbrev pub client_named : Pairs → Result Dot AdminRefusal
client_named params =
    if has_twice client_names params then Err DuplicateParameter
    else client_asked (value_of (codes "client_id") params)

-- the judgement that shows the client at the dot, if one was added there (own)
abbrev pub shown_at : Dot → Option ClientFields → Administered
shown_at d None = Refused UnknownClient
shown_at d (Some client) =
    Shows (record {
      client = d;
      client_kind = client.client_kind;
      lives = client.lives;
      live = client.live;
      scope = client.scope;
    })

-- the judgement that shows the client of an id (own)
abbrev pub shown_by : FactSet → Result Dot AdminRefusal → Administered
shown_by F (Err why) = Refused why
shown_by F (Ok d) = shown_at d (client_view F d)

-- the judgement of GET /admin/client (own)
abbrev pub shown_of : FactSet → Pairs → Administered
shown_of F params = shown_by F (client_named params)

-- the judgement that retires the client at the dot, if one was added there (own)
abbrev pub retired_at : Dot → Option ClientFields → Administered
retired_at d None = Refused UnknownClient
retired_at d (Some client) = Retires d client.live

-- the judgement that retires the client of an id (own)
abbrev pub retired_by : FactSet → Result Dot AdminRefusal → Administered
retired_by F (Err why) = Refused why
retired_by F (Ok d) = retired_at d (client_view F d)

-- the judgement of POST /admin/retire (own)
abbrev pub retired_of : FactSet → Pairs → Administered
retired_of F params = retired_by F (client_named params)

-- ---- give a consent

-- the judgement of a new consent by its scope, which must be within the client's (RFC 6749, 3.3)
abbrev pub consented_for : Dot → List ℕ → Option (List ℕ) → Administered
consented_for client subject None = Refused WrongScope
consented_for client subject (Some scope) =
    Consents (record { client = client; subject = subject; scope = scope; by = None })

-- the judgement of a new consent by its subject, which must be the name of one (own)
abbrev pub consented_as : Dot → List ℕ → List ℕ → List ℕ → Administered
consented_as client whole subject scope =
    if is_subject subject then consented_for client subject (scope_asked whole (Some scope))
    else Refused MalformedSubject

-- the judgement of a new consent by its client, which must be live (own)
abbrev pub consented_at : Dot → List ℕ → List ℕ → Option ClientFields → Administered
consented_at client subject scope None = Refused UnknownClient
consented_at client subject scope (Some view) =
    if view.live then consented_as client view.scope subject scope else Refused UnknownClient

-- the judgement of a new consent by the client's id, which must be one (own)
abbrev pub consented_to : FactSet → List ℕ → List ℕ → Option Dot → Administered
consented_to F subject scope None = Refused UnknownClient
consented_to F subject scope (Some client) =
    consented_at client subject scope (client_view F client)

-- the judgement of a new consent by its parameters: client, subject and scope are required (own)
abbrev pub consented_by : FactSet → Option (List ℕ) → Option (List ℕ) → Option (List ℕ)
    → Administered
consented_by F None subject scope = Refused MissingParameter
consented_by F (Some id) None scope = Refused MissingParameter
consented_by F (Some id) (Some subject) None = Refused MissingParameter
consented_by F (Some id) (Some subject) (Some scope) = consented_to F subject scope (client_in id)

-- the names of the parameters that POST /admin/consent knows (own)
abbrev pub consent_names : List (List ℕ)
consent_names = codes "client_id" ∷ codes "subject" ∷ codes "scope" ∷ []

-- the judgement of POST /admin/consent: no parameter that the endpoint knows may occur twice (own)
abbrev pub consented_of : FactSet → Pairs → Administered
consented_of F params =
    if has_twice consent_names params then Refused DuplicateParameter
    else consented_by F (value_of (codes "client_id") params) (value_of (codes "subject") params)
    (value_of (codes "scope") params)

-- ---- withdraw a consent

-- the judgement that withdraws the consent at the dot, if one was given there (own)
abbrev pub withdrawn_at : Dot → Option ConsentFields → Administered
withdrawn_at d None = Refused UnknownConsent
withdrawn_at d (Some consent) = Withdraws d consent.live

-- the judgement of a withdrawal by the consent's id, which must be one (own)
abbrev pub withdrawn_to : FactSet → Option Dot → Administered
withdrawn_to F None = Refused UnknownConsent
withdrawn_to F (Some d) = withdrawn_at d (consent_view F d)

-- the judgement of a withdrawal by the consent's id, which is required (own)
abbrev pub withdrawn_by : FactSet → Option (List ℕ) → Administered
withdrawn_by F None = Refused MissingParameter
withdrawn_by F (Some id) = withdrawn_to F (consent_in id)

-- the names of the parameters that POST /admin/withdraw knows (own)
abbrev pub withdrawal_names : List (List ℕ)
withdrawal_names = codes "consent_id" ∷ []

-- the judgement of POST /admin/withdraw: the id must not occur twice (own)
abbrev pub withdrawn_of : FactSet → Pairs → Administered
withdrawn_of F params =
    if has_twice withdrawal_names params then Refused DuplicateParameter
    else withdrawn_by F (value_of (codes "consent_id") params)

-- ---- sign a subject out everywhere

-- the judgement that signs the subject out, unless a sign-out at the moment or later is held (own)
abbrev pub signed_out_at : FactSet → ℕ → List ℕ → Administered
signed_out_at F now subject =
    if is_signed_out F subject now then AlreadyOut subject
    else SignsOut (record { subject = subject; moment = now; by = None })

-- the judgement of a sign-out by its subject, which must be the name of one (own)
abbrev pub signed_out_as : FactSet → ℕ → List ℕ → Administered
signed_out_as F now subject =
    if is_subject subject then signed_out_at F now subject else Refused MalformedSubject

-- the judgement of a sign-out by the subject's parameter, which is required (own)
abbrev pub signed_out_by : FactSet → ℕ → Option (List ℕ) → Administered
signed_out_by F now None = Refused MissingParameter
signed_out_by F now (Some subject) = signed_out_as F now subject

-- the names of the parameters that POST /admin/signout knows (own)
abbrev pub sign_out_names : List (List ℕ)
sign_out_names = codes "subject" ∷ []

-- the judgement of POST /admin/signout: the subject must not occur twice (own)
abbrev pub signed_out_of : FactSet → ℕ → Pairs → Administered
signed_out_of F now params =
    if has_twice sign_out_names params then Refused DuplicateParameter
    else signed_out_by F now (value_of (codes "subject") params)

-- ---- by the endpoint

-- the judgement by the endpoint and the parameters (own)
abbrev pub administered_at : Endpoint → FactSet → ℕ → Pairs → Administered
administered_at endpoint.Authorize F now params = Refused UnknownEndpoint
administered_at endpoint.Token F now params = Refused UnknownEndpoint
administered_at endpoint.Introspect F now params = Refused UnknownEndpoint
administered_at endpoint.Revoke F now params = Refused UnknownEndpoint
administered_at endpoint.AddClient F now params = registered_of params
administered_at endpoint.ShowClient F now params = shown_of F params
administered_at endpoint.ListClients F now params = Refused UnknownEndpoint
administered_at endpoint.Retire F now params = retired_of F params
administered_at endpoint.ChangeSecret F now params = changed_of F now params
administered_at endpoint.Consent F now params = consented_of F params
administered_at endpoint.Withdraw F now params = withdrawn_of F params
administered_at endpoint.SignOut F now params = signed_out_of F now params
administered_at endpoint.ShowSubject F now params = Refused UnknownEndpoint
administered_at endpoint.Logout F now params = logged_out_of F now params

-- the judgement of an administration request (own)
abbrev pub administered_of : FactSet → ℕ → RequestFields → Administered
administered_of F now request = administered_at request.endpoint F now request.params
