-- The JSON bodies of replies, as values. The keys of an object ascend by their bytes.
--   error_body      {"error":NAME} (RFC 6749, 5.2)
--   client_body     {"client_id":ID} (own)
--   consent_body    {"consent_id":ID} (own)
--   login_body      {"login_id":ID} (own)
--   subject_body    {"subject":SUBJECT} (own)
--   shown_body      {"client_id":ID,"kind":KIND,"live":LIVE,"scope":SCOPE}, with a member
--                   "refresh":"kept" of a client that keeps its refresh token, and members
--                   "access_life", "family_life" and "refresh_life" of a client with lives (own)
--   token_body      an access token and a refresh token (RFC 6749, 5.1)
--   refreshed_body  an access token without a refresh token (RFC 6749, 5.1)
--   access_body     an active access token (RFC 7662, 2.2)
--   refresh_body    an active refresh token (RFC 7662, 2.2)
--   standing_body   the body of an active token, by its standing
--   inactive_body   a token that is not active (RFC 7662, 2.2)
--   taken_body      {"took":N} (own)
use Rattle.std.specs.Prelude.{ℕ, Bool, true, false, List, [], ◌∷◌, codes, decimal}
use Rattle.std.specs.Prelude.{Option, Some, None}
use Rattle.std.specs.Option.{option_map}
use Rattle.json.specs.Token.{Token, key, string as a_string, number as a_number}
use Rattle.serde_json.specs.Data.{
  Data,
  Members,
  string,
  boolean,
  number,
  unsigned,
  object,
  member,
  no_members,
}
use Rattle.tk_handle.specs.declared.dot.Dot.{Dot}
use Rattle.tk_handle.specs.ClientId.{client_text}
use Rattle.tk_handle.specs.ConsentId.{consent_text}
use Rattle.tk_handle.specs.LoginId.{login_text}
use Rattle.tk_handle.specs.declared.handle.Handle.{Handle}
use Rattle.tk_handle.specs.Handle.{handle_text}
use Rattle.tk_fact.specs.declared.client_kind.ClientKind.{ClientKind}
use Rattle.tk_fact.specs.declared.client_kind.ClientKind.TheVariants.{
  Public,
  Confidential,
  Resource,
  Keeping,
}
use Rattle.tk_fact.specs.declared.client_lives.ClientLives.{ClientLives}
use Rattle.tk_ledger.specs.StandingFields.{StandingFields}

-- the body of an error (RFC 6749, 5.2)
abbrev pub error_body : List ℕ → Data
error_body name = object (member (codes "error") (string name) no_members)

-- the body with a client's id (own)
abbrev pub client_body : Dot → Data
client_body client = object (member (codes "client_id") (string (client_text client)) no_members)

-- the body with a consent's id (own)
abbrev pub consent_body : Dot → Data
consent_body consent =
    object (member (codes "consent_id") (string (consent_text consent)) no_members)

-- the body with a login's id (own)
abbrev pub login_body : Dot → Data
login_body login = object (member (codes "login_id") (string (login_text login)) no_members)

-- the body with the name of a subject (own)
abbrev pub subject_body : List ℕ → Data
subject_body subject = object (member (codes "subject") (string subject) no_members)

-- the name of a client's kind (own)
abbrev pub kind_name : ClientKind → List ℕ
kind_name Public = codes "public"
kind_name (Confidential digest) = codes "confidential"
kind_name (Resource digest) = codes "resource"
kind_name (Keeping digest) = codes "confidential"

-- the members behind one that says that a client keeps its refresh token, if it does (own)
abbrev pub with_refresh : ClientKind → Members → Members
with_refresh (Keeping digest) rest = member (codes "refresh") (string (codes "kept")) rest
with_refresh client_kind rest = rest

-- the member that says that a client keeps its refresh token, as it is written (own)
abbrev pub refresh_written : ClientKind → List Token
refresh_written (Keeping digest) = key (codes "refresh") ∷ a_string (codes "kept") ∷ []
refresh_written client_kind = []

-- the members behind one that is a number, if there is such a number (own)
abbrev pub with_number : List ℕ → Option ℕ → Members → Members
with_number name None rest = rest
with_number name (Some value) rest = member name (number (unsigned value)) rest

-- the member that is a number, if there is such a number, as it is written (own)
abbrev pub number_written : List ℕ → Option ℕ → List Token
number_written name None = []
number_written name (Some value) = key name ∷ a_number (decimal value) ∷ []

-- the members behind one that is a text, if there is such a text (own)
abbrev pub with_text : List ℕ → Option (List ℕ) → Members → Members
with_text name None rest = rest
with_text name (Some text) rest = member name (string text) rest

-- the member that is a text, if there is such a text, as it is written (own)
abbrev pub text_written : List ℕ → Option (List ℕ) → List Token
text_written name None = []
text_written name (Some text) = key name ∷ a_string text ∷ []

-- the life of an access token of a client with lives (own)
abbrev pub access_life : Option ClientLives → Option ℕ
access_life lives = option_map (λ l. l.access) lives

-- the life of a refresh token of a client with lives (own)
abbrev pub refresh_life : Option ClientLives → Option ℕ
refresh_life lives = option_map (λ l. l.refresh) lives

-- the life of a family of a client with lives (own)
abbrev pub family_life : Option ClientLives → Option ℕ
family_life lives = option_map (λ l. l.family) lives

-- the body that shows a client (own)
abbrev pub shown_body : Dot → ClientKind → Option ClientLives → Bool → List ℕ → Data
shown_body client client_kind lives live scope = object
    (with_number (codes "access_life") (access_life lives)
    (member (codes "client_id") (string (client_text client))
    (with_number (codes "family_life") (family_life lives)
    (member (codes "kind") (string (kind_name client_kind))
    (member (codes "live") (boolean live)
    (with_refresh client_kind
    (with_number (codes "refresh_life") (refresh_life lives)
    (member (codes "scope") (string scope) no_members))))))))

-- an access token, its life in seconds, a refresh token, and the scope of the access token (RFC
-- 6749, 5.1 and 7.1)
abbrev pub token_body : Handle → ℕ → Handle → List ℕ → Data
token_body access lifetime refresh scope = object
    (member (codes "access_token") (string (handle_text access))
    (member (codes "expires_in") (number (unsigned lifetime))
    (member (codes "refresh_token") (string (handle_text refresh))
    (member (codes "scope") (string scope)
    (member (codes "token_type") (string (codes "Bearer")) no_members)))))

-- an access token, its life in seconds, and its scope, for a client that keeps its refresh token
-- (RFC 6749, 5.1 and 6: `refresh_token` is optional)
abbrev pub refreshed_body : Handle → ℕ → List ℕ → Data
refreshed_body access lifetime scope = object
    (member (codes "access_token") (string (handle_text access))
    (member (codes "expires_in") (number (unsigned lifetime))
    (member (codes "scope") (string scope)
    (member (codes "token_type") (string (codes "Bearer")) no_members))))

-- an active access token: its client, expiry, start, scope and subject (RFC 7662, 2.2)
abbrev pub access_body : Dot → ℕ → ℕ → List ℕ → List ℕ → Data
access_body client expiry start scope subject = object
    (member (codes "active") (boolean true)
    (member (codes "client_id") (string (client_text client))
    (member (codes "exp") (number (unsigned expiry))
    (member (codes "iat") (number (unsigned start))
    (member (codes "scope") (string scope)
    (member (codes "sub") (string subject)
    (member (codes "token_type") (string (codes "Bearer")) no_members)))))))

-- an active refresh token: its client, expiry, start, scope and subject. A refresh token has no
-- type of access token (RFC 7662, 2.2; RFC 6749, 7.1)
abbrev pub refresh_body : Dot → ℕ → ℕ → List ℕ → List ℕ → Data
refresh_body client expiry start scope subject = object
    (member (codes "active") (boolean true)
    (member (codes "client_id") (string (client_text client))
    (member (codes "exp") (number (unsigned expiry))
    (member (codes "iat") (number (unsigned start))
    (member (codes "scope") (string scope)
    (member (codes "sub") (string subject) no_members))))))

-- the body of an active token, by its standing (RFC 7662, 2.2)
abbrev pub standing_body : (Dot → ℕ → ℕ → List ℕ → List ℕ → Data) → StandingFields → Data
standing_body body s = body s.client s.expiry s.start s.scope s.subject

-- a token that is not active (RFC 7662, 2.2)
abbrev pub inactive_body : Data
inactive_body = object (member (codes "active") (boolean false) no_members)

-- the number of a bundle's facts that were new (own)
abbrev pub taken_body : ℕ → Data
taken_body count = object (member (codes "took") (number (unsigned count)) no_members)
