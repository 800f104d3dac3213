-- What a server says of itself: its metadata (RFC 8414, 2 and 3.2; RFC 9207, 3), and its health
-- (own).
--   methods_of       the challenge methods that are taken
--   metadata         the metadata, as a JSON text
--   metadata_reply   the reply with the metadata
--   metadata_of      the reply with the metadata, if there is an issuer
--   health_of        the reply with the health, if the terms give it
use Rattle.std.specs.Prelude.{ℕ, Bool, nat_lt, List, [], ◌∷◌, codes, Option, None, Some}
use Rattle.std.specs.Prelude.{if◌then◌else◌}
use Rattle.std.specs.List.{concat}
use Rattle.std.specs.Option.{option_map}
use Rattle.tk_message.specs.ReplyFields.{ReplyFields, JsonText}
use Rattle.tk_message.specs.declared.choices.ChallengeRules.{ChallengeRules}
use Rattle.tk_message.specs.declared.reply.Asks.TheVariants as asks
use Rattle.tk_message.specs.declared.status_code.StatusCode.{StatusCode}
use Rattle.tk_message.specs.declared.status_code.StatusCode.TheVariants.{Ok, ServiceUnavailable}

-- a reply with a JSON text (own)
abbrev pub text_reply : StatusCode → List ℕ → ReplyFields
text_reply status text = record {
  status = status;
  location = None;
  asks = asks.Nothing;
  content = JsonText text;
}

-- the challenge methods that are taken, as a JSON list (RFC 7636, 4.2)
abbrev pub methods_of : ChallengeRules → List ℕ
methods_of rules =
    if rules.only_s256 then codes "[\"S256\"]" else codes "[\"plain\",\"S256\"]"

-- the metadata of the server of an issuer, by the list of challenge methods, with the names in the
-- order of their bytes (RFC 8414, 2; RFC 9207, 3). At /token and /revoke a client may prove itself
-- by its id alone.
abbrev pub metadata : List ℕ → List ℕ → List ℕ
metadata issuer methods = concat (
    codes "{\"authorization_endpoint\":\"" ∷ issuer
    ∷ codes "/authorize\",\"authorization_response_iss_parameter_supported\":true,"
    ∷ codes "\"code_challenge_methods_supported\":" ∷ methods
    ∷ codes ",\"grant_types_supported\":[\"authorization_code\",\"refresh_token\"],"
    ∷ codes "\"introspection_endpoint\":\"" ∷ issuer
    ∷ codes "/introspect\",\"introspection_endpoint_auth_methods_supported\":"
    ∷ codes "[\"client_secret_basic\",\"client_secret_post\"],\"issuer\":\"" ∷ issuer
    ∷ codes "\",\"response_modes_supported\":[\"query\"],"
    ∷ codes "\"response_types_supported\":[\"code\"],\"revocation_endpoint\":\"" ∷ issuer
    ∷ codes "/revoke\",\"revocation_endpoint_auth_methods_supported\":"
    ∷ codes "[\"client_secret_basic\",\"client_secret_post\",\"none\"],\"token_endpoint\":\""
    ∷ issuer
    ∷ codes "/token\",\"token_endpoint_auth_methods_supported\":"
    ∷ codes "[\"client_secret_basic\",\"client_secret_post\",\"none\"]}" ∷ [])

-- the reply with the metadata, by what is required of challenges (RFC 8414, 3.2)
abbrev pub metadata_reply : List ℕ → ChallengeRules → ReplyFields
metadata_reply issuer rules = text_reply Ok (metadata issuer (methods_of rules))

-- the reply with the metadata of an issuer, if there is one, by what is required of challenges (RFC
-- 8414, 3.2)
abbrev pub metadata_of : Option (List ℕ) → ChallengeRules → Option ReplyFields
metadata_of issuer rules = option_map (λ i. metadata_reply i rules) issuer

-- the health at the moment, by the horizon: before it requests of clients get 503 (own)
abbrev pub health_reply : ℕ → ℕ → ReplyFields
health_reply horizon now =
    if nat_lt now horizon
    then text_reply ServiceUnavailable (codes "{\"status\":\"before_horizon\"}")
    else text_reply Ok (codes "{\"status\":\"ok\"}")

-- the reply with the health, if the terms give it (own)
abbrev pub health_of : Bool → ℕ → ℕ → Option ReplyFields
health_of given horizon now = if given then Some (health_reply horizon now) else None
