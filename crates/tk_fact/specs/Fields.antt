-- The fields of facts in bytes (own).
--   digest_field      a SHA-256 digest
--   client_kind_field        a client kind, with the digest of the client's secret
--   lives_field       the lives that a client was registered with
--   scope_field       a scope, by its printed form
--   subject_field     a subject, by its name
--   by_field          by whom and when a fact was administered
--   uri_field         a redirection URI
--   redirects_field   a list of redirection URIs
--   flag_field        a yes or no
--   challenge_field   an optional challenge
--   minted_field      an access or refresh token that a fact mints
use Rattle.std.specs.Prelude.{ℕ, Bool, true, false, ◌==◌, List, [], Option, Some, None}
use Rattle.std.specs.Prelude.{if◌then◌else◌}
use Rattle.std.specs.Int.{w64}
use Rattle.std.specs.Str.{bytes_eq}
use Rattle.tk_format.specs.Format.{◌>>=◌, Format, ◌⊗◌, byte, bytes_of, text, only, shaped, partly}
use Rattle.tk_format.specs.Format.{counted, coded, choice, via, nothing, Kinds, kind, no_kind}
use Rattle.tk_format.specs.Format.{◌and_then◌, one_of, number}
use Rattle.tk_scope.specs.Scope.{scope_of}
use Rattle.tk_match.specs.Redirects.{is_uri, redirects_of}
use Rattle.tk_match.specs.Challenge.{ChallengeFields, is_verifier}
use Rattle.tk_handle.specs.Moment.{moment}
use Rattle.tk_fact.specs.declared.by.By.{By}
use Rattle.tk_fact.specs.declared.client_kind.ClientKind.{ClientKind}
use Rattle.tk_fact.specs.declared.client_kind.ClientKind.TheVariants.{
  Public,
  Confidential,
  Resource,
  Keeping,
}
use Rattle.tk_fact.specs.declared.client_lives.ClientLives.{ClientLives}
use Rattle.tk_fact.specs.declared.minted_token.MintedToken.{MintedToken}
use Rattle.tk_fact.specs.Subject.{is_subject}

-- a digest: 32 bytes
abbrev pub digest_field : Format (List ℕ)
digest_field = bytes_of 32

-- ---- client kinds

-- the client kinds: the number of each, its constructor, its digest, and the format of that; facts
-- that were written keep these numbers, so they never change
unfoldable pub client_kinds : Kinds ClientKind
client_kinds =
    kind 0 (λ _. Public) (elim [ Public ↦ Some tt | _ ↦ None ]) nothing
    and_then kind 1 Confidential
    (elim [ Confidential digest ↦ Some digest | _ ↦ None ]) digest_field
    and_then kind 2 Resource (elim [ Resource digest ↦ Some digest | _ ↦ None ]) digest_field
    and_then kind 3 Keeping (elim [ Keeping digest ↦ Some digest | _ ↦ None ]) digest_field
    and_then no_kind

-- a client kind: a byte, and behind it the digest of the secret, except for a public client
abbrev pub client_kind_field : Format ClientKind
client_kind_field = one_of client_kinds

-- the lives that a client was registered with, in seconds: of an access token, of a refresh token,
-- of a family
abbrev pub lives_field : Format ClientLives
lives_field = shaped
    (λ (access, (refresh, family)).
    record { access = access; refresh = refresh; family = family })
    (λ l. (l.access, (l.refresh, l.family)))
    (number w64 ⊗ (number w64 ⊗ number w64))

-- ---- scopes, subjects and redirection URIs

-- the scope of a text, if the text is its printed form
abbrev pub printed_scope_of : List ℕ → Option (List ℕ)
printed_scope_of t = scope_of t >>= λ s. if bytes_eq s t then Some s else None

-- a scope: its printed form, as a text
abbrev pub scope_field : Format (List ℕ)
scope_field = partly printed_scope_of (λ s. s) text

-- a subject: its name, as a text
abbrev pub subject_field : Format (List ℕ)
subject_field = only is_subject text

-- by whom and when a fact was administered: the operator, the moment
abbrev pub by_field : Format By
by_field = shaped (λ (operator, at). record { operator = operator; moment = at })
    (λ b. (b.operator, b.moment)) (subject_field ⊗ moment)

-- a redirection URI, as a text
abbrev pub uri_field : Format (List ℕ)
uri_field = only is_uri text

-- a list of redirection URIs: their number in a byte, and each as a text
abbrev pub redirects_field : Format (List (List ℕ))
redirects_field = partly redirects_of (λ r. r) (counted byte text)

-- ---- a yes or no

-- the number of a flag
abbrev pub flag_code : Bool → ℕ
flag_code false = 0
flag_code true = 1

-- the flag with a number
abbrev pub flag_of : ℕ → Option Bool
flag_of b = if b == 0 then Some false else if b == 1 then Some true else None

-- a flag: its number in a byte
abbrev pub flag_field : Format Bool
flag_field = coded flag_code flag_of

-- ---- challenges

-- the number of an optional challenge's method; facts that were written keep these numbers, so they
-- never change
abbrev pub challenge_tag : Option ChallengeFields → ℕ
challenge_tag None = 0
challenge_tag (Some c) = if c.is_s256 then 2 else 1

-- the text of a challenge (RFC 7636, 4.2)
abbrev pub challenge_bytes : Format (List ℕ)
challenge_bytes = only is_verifier text

-- the bytes behind the number of the method: the text, if there is a challenge
abbrev pub challenge_rest : Option ChallengeFields → List ℕ
challenge_rest None = []
challenge_rest (Some c) = challenge_bytes.spell c.text

-- an optional challenge has a spelling
abbrev pub ChallengeFits : Option ChallengeFields → Type 0
ChallengeFits None = Unit {0}
ChallengeFits (Some c) = challenge_bytes.Fits c.text

-- a challenge with a method and a text
abbrev pub challenge_with : Bool → List ℕ → Option ChallengeFields
challenge_with is_s256 t = Some (record { is_s256 = is_s256; text = t })

-- what is read behind each number of a method
abbrev pub challenge_cases : ℕ → List ℕ → Option (Option ChallengeFields × List ℕ)
challenge_cases t bytes =
    if t == 0 then Some (None, bytes)
    else if t == 1 then via (challenge_with false) challenge_bytes bytes
    else if t == 2 then via (challenge_with true) challenge_bytes bytes
    else None

-- an optional challenge: a byte (0 no challenge, 1 plain, 2 S256), and behind it the text, unless
-- the byte is 0
abbrev pub challenge_field : Format (Option ChallengeFields)
challenge_field = choice challenge_tag challenge_rest ChallengeFits challenge_cases

-- ---- minted tokens

-- a minted token: its digest, its expiry, its scope
abbrev pub minted_field : Format MintedToken
minted_field = shaped
    (λ (digest, (expiry, scope)). record { digest = digest; expiry = expiry; scope = scope })
    (λ m. (m.digest, (m.expiry, m.scope)))
    (digest_field ⊗ (moment ⊗ scope_field))
