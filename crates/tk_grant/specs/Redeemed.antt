-- The judgement of a code (RFC 6749, 4.1.3; RFC 7636, 4.6).
--   names_uri         the request repeats the redirection URI of the code's request
--   meets_challenge   a verifier meets the challenge, or there is neither
--   redeemed_of       the judgement of a request for a code's tokens
use Rattle.std.specs.Prelude.{
  ℕ,
  Bool,
  true,
  false,
  not,
  List,
  codes,
  Option,
  Some,
  None,
  if◌then◌else◌,
}
use Rattle.std.specs.Str.{bytes_eq}
use Rattle.tk_match.specs.Challenge.{ChallengeFields, is_met}
use Rattle.tk_fact.specs.declared.client_lives.ClientLives.{ClientLives}
use Rattle.tk_ledger.specs.StandingFields.{StandingFields}
use Rattle.tk_params.specs.Params.{Pairs, value_of}
use Rattle.tk_grant.specs.declared.gate.Gate.{Gate}
use Rattle.tk_grant.specs.declared.gate.Gate.TheVariants.{Shut, Reuse, Open}
use Rattle.tk_grant.specs.declared.judged.Judged.{Judged}
use Rattle.tk_grant.specs.declared.judged.Judged.TheVariants.{Refused, Reused, Redeems}
use Rattle.tk_grant.specs.declared.refusal.Refusal.TheVariants.{WrongRedirect, WrongVerifier}

-- the URI is the code's, byte for byte. The request may leave the URI out only if the code's
-- request did (RFC 6749, 4.1.3)
abbrev pub names_uri : Bool → List ℕ → Option (List ℕ) → Bool
names_uri sent uri None = not sent
names_uri sent uri (Some named) = bytes_eq named uri

-- the verifier meets the challenge (RFC 7636, 4.6), or there is neither (own)
abbrev pub meets_challenge : Option ChallengeFields → Option (List ℕ) → Bool
meets_challenge None None = true
meets_challenge None (Some verifier) = false
meets_challenge (Some challenge) None = false
meets_challenge (Some challenge) (Some verifier) = is_met challenge verifier

-- the judgement of the code by the URI (RFC 6749, 4.1.3) and the verifier (RFC 7636, 4.6). Both
-- tokens get the code's scope (RFC 6749, 4.1.4 and 6)
abbrev pub redeemed_by : Option ClientLives → Pairs → StandingFields → Judged
redeemed_by lives params standing =
    if not (names_uri standing.issued.sent standing.issued.uri
    (value_of (codes "redirect_uri") params))
    then Refused WrongRedirect
    else if not (meets_challenge standing.issued.challenge
    (value_of (codes "code_verifier") params))
    then Refused WrongVerifier
    else Redeems (record {
      from = standing.code;
      family_end = standing.family_end;
      lives = lives;
      access = standing.scope;
      refresh = standing.scope;
    })

-- the judgement of the code at the gate (RFC 6749, 4.1.3; RFC 7636, 4.6)
abbrev pub redeemed_of : Option ClientLives → Pairs → Gate → Judged
redeemed_of lives params (Shut why) = Refused why
redeemed_of lives params (Reuse id) = Reused id
redeemed_of lives params (Open id standing) = redeemed_by lives params standing
