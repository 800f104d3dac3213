-- The members of a fact's fields in its line (own), in the order of its bytes. Each begins with a
-- comma.
--   client_fields    those of a client that is added; so for each kind of fact with several fields
--   by_members       by whom and when a fact was administered
--   fields_of        those of any fact, without these
use Rattle.std.specs.Prelude.{ℕ, Bool, List, [], ◌++◌, codes, Option, Some, None}
use Rattle.std.specs.Prelude.{if◌then◌else◌}
use Rattle.tk_handle.specs.declared.kind.Kind.{Kind}
use Rattle.tk_handle.specs.declared.kind.Kind.TheVariants.{Code, Access, Refresh}
use Rattle.tk_handle.specs.declared.token_id.TokenId.{TokenId}
use Rattle.tk_match.specs.Challenge.{ChallengeFields}
use Rattle.tk_fact.specs.declared.by.By.{By}
use Rattle.tk_fact.specs.declared.client_kind.ClientKind.{ClientKind}
use Rattle.tk_fact.specs.declared.client_kind.ClientKind.TheVariants.{
  Public,
  Confidential,
  Resource,
  Keeping,
}
use Rattle.tk_fact.specs.declared.client_lives.ClientLives.{ClientLives}
use Rattle.tk_fact.specs.declared.client_added.ClientAdded.{ClientAdded}
use Rattle.tk_fact.specs.declared.consent_given.ConsentGiven.{ConsentGiven}
use Rattle.tk_fact.specs.declared.code_issued.CodeIssued.{CodeIssued}
use Rattle.tk_fact.specs.declared.code_redeemed.CodeRedeemed.{CodeRedeemed}
use Rattle.tk_fact.specs.declared.refresh_rotated.RefreshRotated.{RefreshRotated}
use Rattle.tk_fact.specs.declared.token_revoked.TokenRevoked.{TokenRevoked}
use Rattle.tk_fact.specs.declared.subject_out.SubjectOut.{SubjectOut}
use Rattle.tk_fact.specs.declared.access_refreshed.AccessRefreshed.{AccessRefreshed}
use Rattle.tk_fact.specs.declared.secret_set.SecretSet.{SecretSet}
use Rattle.tk_fact.specs.declared.minted_token.MintedToken.{MintedToken}
use Rattle.tk_fact.specs.declared.body.Body.{Body}
use Rattle.tk_fact.specs.declared.body.Body.TheVariants as bodies
use Rattle.tk_listing.specs.Members.{named, plain_member, text_member, texts_member, number_member}
use Rattle.tk_listing.specs.Members.{flag_member, dot_member, moment_member, hex_text, quoted}

-- the client kind, and the digest of the client's secret
unfoldable pub secret_members : List ℕ → List ℕ → List ℕ
secret_members kind digest =
    plain_member (codes "client_kind") kind
    ++ plain_member (codes "secret_digest") (hex_text digest)

-- that a client keeps its refresh token, and the digest of the client's secret
unfoldable pub kept_members : List ℕ → List ℕ
kept_members digest =
    plain_member (codes "refresh") (codes "kept")
    ++ plain_member (codes "secret_digest") (hex_text digest)

-- the client kind, that the client keeps its refresh token, and the digest of its secret
unfoldable pub keeping_members : List ℕ → List ℕ → List ℕ
keeping_members kind digest =
    plain_member (codes "client_kind") kind ++ kept_members digest

-- the client kind, with the digest of the client's secret if it has one
abbrev pub client_kind_members : ClientKind → List ℕ
client_kind_members Public = plain_member (codes "client_kind") (codes "public")
client_kind_members (Confidential digest) = secret_members (codes "confidential") digest
client_kind_members (Resource digest) = secret_members (codes "resource") digest
client_kind_members (Keeping digest) = keeping_members (codes "confidential") digest

-- the name of a challenge's method
unfoldable pub method_name : Bool → List ℕ
method_name is_s256 = if is_s256 then codes "S256" else codes "plain"

-- the method of a challenge
unfoldable pub method_member : Bool → List ℕ
method_member is_s256 = plain_member (codes "challenge_method") (method_name is_s256)

-- the method and the text of a challenge
unfoldable pub given_members : Bool → List ℕ → List ℕ
given_members is_s256 text =
    method_member is_s256 ++ plain_member (codes "challenge") (hex_text text)

-- the method and the text of a challenge, if there is one
unfoldable pub challenge_members : Option ChallengeFields → List ℕ
challenge_members None = []
challenge_members (Some c) = given_members c.is_s256 c.text

-- the name of a kind of token
abbrev pub token_kind : Kind → List ℕ
token_kind Code = codes "code"
token_kind Access = codes "access_token"
token_kind Refresh = codes "refresh_token"

-- the dot of the fact that minted a token, and the token's kind
unfoldable pub token_members : TokenId → List ℕ
token_members t =
    dot_member (codes "token") t.dot ++ plain_member (codes "token_kind") (token_kind t.kind)

-- the beginning of an object with a digest
unfoldable pub begun_digest : List ℕ → List ℕ
begun_digest digest = codes "{\"digest\":\"" ++ (hex_text digest ++ codes "\"")

-- a token that a fact mints, as an object
unfoldable pub minted_member : List ℕ → MintedToken → List ℕ
minted_member name t =
    named name
    ++ (begun_digest t.digest
    ++ (moment_member (codes "expiry") t.expiry
    ++ (text_member (codes "scope") t.scope ++ codes "}")))

-- the lives that a client was registered with, in seconds
unfoldable pub given_lives : ClientLives → List ℕ
given_lives l =
    number_member (codes "access_life") l.access
    ++ (number_member (codes "refresh_life") l.refresh
    ++ number_member (codes "family_life") l.family)

-- the lives that a client was registered with, if it has any
unfoldable pub lives_members : Option ClientLives → List ℕ
lives_members None = []
lives_members (Some l) = given_lives l

-- the members of a client that is added: its kind, its scope, its redirection URIs and its lives
unfoldable pub client_fields : ClientAdded → List ℕ
client_fields f =
    client_kind_members f.client_kind
    ++ (text_member (codes "scope") f.scope
    ++ (texts_member (codes "uris") f.redirects ++ lives_members f.lives))

-- the members of a consent that is given: its client, its subject and its scope
unfoldable pub consent_fields : ConsentGiven → List ℕ
consent_fields f =
    dot_member (codes "client") f.client
    ++ (text_member (codes "subject") f.subject ++ text_member (codes "scope") f.scope)

-- the members of a code's rights, and of what a token request must match
unfoldable pub bound_fields : CodeIssued → List ℕ
bound_fields f =
    text_member (codes "subject") f.subject
    ++ (text_member (codes "scope") f.scope
    ++ (text_member (codes "uri") f.uri
    ++ (flag_member (codes "uri_sent") f.sent ++ challenge_members f.challenge)))

-- the members of a code that is issued
unfoldable pub code_fields : CodeIssued → List ℕ
code_fields f =
    dot_member (codes "client") f.client
    ++ (dot_member (codes "consent") f.consent
    ++ (plain_member (codes "digest") (hex_text f.digest)
    ++ (moment_member (codes "start") f.start
    ++ (moment_member (codes "expiry") f.expiry
    ++ (moment_member (codes "family_end") f.family_end ++ bound_fields f)))))

-- the members of the two tokens of a grant
unfoldable pub minted_members : MintedToken → MintedToken → List ℕ
minted_members access refresh =
    minted_member (codes "access_token") access ++ minted_member (codes "refresh_token") refresh

-- the members of a code that is redeemed
unfoldable pub redeemed_fields : CodeRedeemed → List ℕ
redeemed_fields f =
    dot_member (codes "code") f.code
    ++ (moment_member (codes "start") f.start ++ minted_members f.access f.refresh)

-- the members of a refresh token that is rotated
unfoldable pub rotated_fields : RefreshRotated → List ℕ
rotated_fields f =
    dot_member (codes "parent") f.parent
    ++ (number_member (codes "generation") f.generation
    ++ (moment_member (codes "start") f.start ++ minted_members f.access f.refresh))

-- the members of a token that is revoked
unfoldable pub revoked_fields : TokenRevoked → List ℕ
revoked_fields f =
    token_members f.token
    ++ (plain_member (codes "digest") (hex_text f.digest) ++ dot_member (codes "client") f.client)

-- the members of a sign-out
unfoldable pub sign_out_fields : SubjectOut → List ℕ
sign_out_fields f =
    text_member (codes "subject") f.subject ++ moment_member (codes "moment") f.moment

-- the members of an access token that is refreshed
unfoldable pub refreshed_fields : AccessRefreshed → List ℕ
refreshed_fields f =
    dot_member (codes "parent") f.parent
    ++ (moment_member (codes "start") f.start ++ minted_member (codes "access_token") f.access)

-- the members of a secret that is set
unfoldable pub set_fields : SecretSet → List ℕ
set_fields f =
    dot_member (codes "client") f.client
    ++ (number_member (codes "turn") f.turn
    ++ (plain_member (codes "secret_digest") (hex_text f.digest)
    ++ moment_member (codes "moment") f.moment))

-- the beginning of an object with an operator
unfoldable pub begun_by : List ℕ → List ℕ
begun_by operator = codes "{\"operator\":" ++ quoted operator

-- by whom and when, as an object
unfoldable pub by_member : By → List ℕ
by_member by =
    named (codes "by")
    ++ (begun_by by.operator ++ (moment_member (codes "moment") by.moment ++ codes "}"))

-- by whom and when, if an operator was named
unfoldable pub by_members : Option By → List ℕ
by_members None = []
by_members (Some by) = by_member by

-- the members of a fact's fields, in the order of its bytes
unfoldable pub fields_of : Body → List ℕ
fields_of (bodies.ClientAdded f) = client_fields f
fields_of (bodies.ClientRetired f) = dot_member (codes "client") f.client
fields_of (bodies.ConsentGiven f) = consent_fields f
fields_of (bodies.ConsentWithdrawn f) = dot_member (codes "consent") f.consent
fields_of (bodies.CodeIssued f) = code_fields f
fields_of (bodies.CodeRedeemed f) = redeemed_fields f
fields_of (bodies.RefreshRotated f) = rotated_fields f
fields_of (bodies.TokenRevoked f) = revoked_fields f
fields_of (bodies.ReuseSeen f) = token_members f.token
fields_of (bodies.SubjectOut f) = sign_out_fields f
fields_of (bodies.AccessRefreshed f) = refreshed_fields f
fields_of (bodies.SecretSet f) = set_fields f
