-- The challenge that an authorization request sends (RFC 7636, 4.3 and 4.4.1; RFC 9700, 2.1.1).
--   is_required      a client must send a challenge
--   challenge_sent   the challenge, `None` if the client may do without, or the first denial
use Rattle.std.specs.Prelude.{
  ℕ,
  Bool,
  true,
  false,
  ◌&&◌,
  ◌||◌,
  not,
  is_some,
  if◌then◌else◌,
  List,
  codes,
  Option,
  Some,
  None,
  Result,
  Ok,
  Err,
}
use Rattle.std.specs.Str.{bytes_eq}
use Rattle.tk_match.specs.Challenge.{ChallengeFields, is_method, is_verifier, challenge_of}
use Rattle.tk_fact.specs.declared.client_kind.ClientKind.{ClientKind}
use Rattle.tk_fact.specs.declared.client_kind.ClientKind.TheVariants.{
  Public,
  Confidential,
  Resource,
  Keeping,
}
use Rattle.tk_message.specs.declared.choices.ChallengeRules.{ChallengeRules}
use Rattle.tk_authorize.specs.declared.denial.Denial.{Denial}
use Rattle.tk_authorize.specs.declared.denial.Denial.TheVariants as denial

-- a client of this kind has no secret (RFC 6749, 2.1)
abbrev pub is_public : ClientKind → Bool
is_public Public = true
is_public (Confidential digest) = false
is_public (Resource digest) = false
is_public (Keeping digest) = false

-- the method that was sent, or `plain` if none was sent (RFC 7636, 4.3)
abbrev pub method_of : Option (List ℕ) → List ℕ
method_of None = codes "plain"
method_of (Some method) = method

-- a client must send a challenge: a public one, or by the region's rules every one (RFC 9700,
-- 2.1.1)
abbrev pub is_required : ChallengeRules → ClientKind → Bool
is_required rules client_kind = rules.of_all || is_public client_kind

-- a request without a challenge. There must be no method, and a client that must send a challenge
-- is denied (RFC 7636, 4.3 and 4.4.1)
abbrev pub without_challenge : ChallengeRules → ClientKind → Option (List ℕ)
    → Result (Option ChallengeFields) Denial
without_challenge rules client_kind method =
    if is_some method then Err denial.ChallengeMethodAlone
    else if is_required rules client_kind then Err denial.MissingChallenge
    else Ok None

-- a challenge with its method. The method must be known (RFC 7636, 4.4.1), and the text must be
-- that of a challenge (RFC 7636, 4.2)
abbrev pub read_known : List ℕ → List ℕ → Result (Option ChallengeFields) Denial
read_known method text =
    if not (is_method method) then Err denial.UnsupportedChallengeMethod
    else if not (is_verifier text) then Err denial.MalformedChallenge
    else Ok (challenge_of method text)

-- a challenge by the region's rules: the method may have to be S256 (RFC 9700, 2.1.1)
abbrev pub read_challenge : ChallengeRules → List ℕ → List ℕ
    → Result (Option ChallengeFields) Denial
read_challenge rules method text =
    if rules.only_s256 && not (bytes_eq method (codes "S256"))
    then Err denial.UnsupportedChallengeMethod
    else read_known method text

-- the challenge that was sent, with its method; if none was sent, `None` or a denial (RFC 7636,
-- 4.3)
abbrev pub challenge_sent : ChallengeRules → ClientKind → Option (List ℕ) → Option (List ℕ)
    → Result (Option ChallengeFields) Denial
challenge_sent rules client_kind method None = without_challenge rules client_kind method
challenge_sent rules client_kind method (Some text) = read_challenge rules (method_of method) text
