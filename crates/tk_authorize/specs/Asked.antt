-- What is requested by the parameters of an authorization request (RFC 6749, 4.1.1 and 4.1.2.1).
--   asked_of       the scope and the challenge, or the first denial that holds
--   is_state       a state, if there is one, may be sent back
--   is_printable   a byte may be in a state
use Rattle.std.specs.Prelude.{
  ℕ,
  Bool,
  true,
  ◌&&◌,
  not,
  nat_le,
  if◌then◌else◌,
  List,
  [],
  ◌∷◌,
  codes,
  Option,
  Some,
  None,
  Result,
  Ok,
  Err,
}
use Rattle.std.specs.List.{list_all}
use Rattle.std.specs.Str.{bytes_eq}
use Rattle.tk_match.specs.Challenge.{ChallengeFields}
use Rattle.tk_fact.specs.declared.client_kind.ClientKind.{ClientKind}
use Rattle.tk_params.specs.Params.{Pairs, value_of, has_twice}
use Rattle.tk_message.specs.ScopeAsked.{scope_asked}
use Rattle.tk_message.specs.declared.choices.ChallengeRules.{ChallengeRules}
use Rattle.tk_authorize.specs.declared.asked.Asked.{Asked}
use Rattle.tk_authorize.specs.declared.denial.Denial.{Denial}
use Rattle.tk_authorize.specs.declared.denial.Denial.TheVariants as denial
use Rattle.tk_authorize.specs.Challenge.{challenge_sent}

-- the scope and the challenge, or the denial for the challenge (RFC 7636, 4.3)
abbrev pub asked_with : List ℕ → Result (Option ChallengeFields) Denial → Result Asked Denial
asked_with scope (Err why) = Err why
asked_with scope (Ok challenge) = Ok (record { scope = scope; challenge = challenge })

-- what the parameters request, by the scope, which must be within the client's (RFC 6749, 3.3)
abbrev pub asked_by_scope : ChallengeRules → ClientKind → Pairs → Option (List ℕ)
    → Result Asked Denial
asked_by_scope rules client_kind params None = Err denial.WrongScope
asked_by_scope rules client_kind params (Some scope) =
    asked_with scope
    (challenge_sent rules client_kind (value_of (codes "code_challenge_method") params)
    (value_of (codes "code_challenge") params))

-- what the parameters request, by the response type, which must be `code` (RFC 6749, 3.1.1). A
-- request without a scope is one for the client's whole scope (RFC 6749, 3.3)
abbrev pub asked_by_type : ChallengeRules → ClientKind → List ℕ → Pairs → Option (List ℕ)
    → Result Asked Denial
asked_by_type rules client_kind whole params None = Err denial.MissingResponseType
asked_by_type rules client_kind whole params (Some name) =
    if bytes_eq name (codes "code")
    then asked_by_scope rules client_kind params
    (scope_asked whole (value_of (codes "scope") params))
    else Err denial.UnsupportedResponseType

-- a byte in %x20-7E (RFC 6749, appendix A.5)
abbrev pub is_printable : ℕ → Bool
is_printable b = nat_le 32 b && nat_le b 126

-- each byte of the state, if there is one, may be in a state (RFC 6749, 4.1.1 and appendix A.5)
abbrev pub is_state : Option (List ℕ) → Bool
is_state None = true
is_state (Some text) = list_all is_printable text

-- the names of the parameters that the endpoint knows, but for those of the client and the URI (RFC
-- 6749, 4.1.1; RFC 7636, 4.3)
abbrev pub other_names : List (List ℕ)
other_names =
    codes "response_type" ∷ codes "scope" ∷ codes "state" ∷ codes "code_challenge"
    ∷ codes "code_challenge_method" ∷ []

-- what the parameters request. No parameter may occur twice (RFC 6749, 3.1), and the state must be
-- one that may be sent back
abbrev pub asked_of : ChallengeRules → ClientKind → List ℕ → Pairs → Result Asked Denial
asked_of rules client_kind whole params =
    if has_twice other_names params then Err denial.DuplicateParameter
    else if not (is_state (value_of (codes "state") params)) then Err denial.MalformedState
    else asked_by_type rules client_kind whole params (value_of (codes "response_type") params)
