-- The judgement of a token request: the first case that holds (RFC 6749, 4.1.3, 5.2 and 6).
--   known_names   the names of the parameters that the endpoint knows
--   judged_of     the judgement by the facts, the moment and the request
use Rattle.std.specs.Prelude.{ℕ, List, [], ◌∷◌, codes, Option, Some, None, if◌then◌else◌}
use Rattle.std.specs.Str.{bytes_eq}
use Rattle.tk_handle.specs.declared.dot.Dot.{Dot}
use Rattle.tk_handle.specs.declared.kind.Kind.TheVariants as kind
use Rattle.tk_store.specs.StoreFields.{StoreFields, held_facts}
use Rattle.tk_ledger.specs.Views.{client_view}
use Rattle.tk_params.specs.Params.{Pairs, value_of}
use Rattle.tk_message.specs.Caller.{caller_of}
use Rattle.tk_message.specs.RequestFields.{RequestFields}
use Rattle.tk_message.specs.declared.caller.Caller.{Caller}
use Rattle.tk_message.specs.declared.caller.Caller.TheVariants as caller
use Rattle.tk_grant.specs.declared.judged.Judged.{Judged}
use Rattle.tk_grant.specs.declared.judged.Judged.TheVariants.{Refused}
use Rattle.tk_grant.specs.declared.refusal.Refusal.TheVariants.{
  DuplicateParameter,
  MixedCredentials,
  InvalidClient,
  MissingGrantType,
  UnsupportedGrantType,
}
use Rattle.tk_grant.specs.Gate.{gate_of}
use Rattle.tk_grant.specs.Redeemed.{redeemed_of}
use Rattle.tk_grant.specs.Renewed.{registered_lives, renewed_of}

-- the judgement by the grant type, which is required (RFC 6749, 4.1.3 and 6) and must be known (RFC
-- 6749, 5.2)
abbrev pub judged_by_type : StoreFields → ℕ → Pairs → Dot → Option (List ℕ) → Judged
judged_by_type P now params client None = Refused MissingGrantType
judged_by_type P now params client (Some name) =
    if bytes_eq name (codes "authorization_code")
    then redeemed_of (registered_lives (client_view (held_facts P) client)) params
    (gate_of P now client kind.Code (value_of (codes "code") params))
    else if bytes_eq name (codes "refresh_token")
    then renewed_of (client_view (held_facts P) client) params
    (gate_of P now client kind.Refresh (value_of (codes "refresh_token") params))
    else Refused UnsupportedGrantType

-- the judgement by the sender: no parameter that the endpoint knows may occur twice, no credentials
-- in two places, and a client must be authenticated (RFC 6749, 2.3, 3.2 and 3.2.1)
abbrev pub judged_by_caller : StoreFields → ℕ → Pairs → Caller → Judged
judged_by_caller P now params caller.DuplicateParameter = Refused DuplicateParameter
judged_by_caller P now params caller.MixedCredentials = Refused MixedCredentials
judged_by_caller P now params caller.InvalidClient = Refused InvalidClient
judged_by_caller P now params (caller.Client client) =
    judged_by_type P now params client (value_of (codes "grant_type") params)

-- the names of the parameters that the endpoint knows. Others are ignored (RFC 6749, 3.2)
abbrev pub known_names : List (List ℕ)
known_names =
    codes "grant_type" ∷ codes "code" ∷ codes "redirect_uri" ∷ codes "client_id"
    ∷ codes "client_secret" ∷ codes "code_verifier"
    ∷ codes "refresh_token" ∷ codes "scope" ∷ []

-- the judgement of a token request (RFC 6749, 4.1.3, 5.2 and 6)
abbrev pub judged_of : StoreFields → ℕ → RequestFields → Judged
judged_of P now request =
    judged_by_caller P now request.params (caller_of (held_facts P) known_names request)
