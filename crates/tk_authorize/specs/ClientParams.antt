-- The parameters `client_id` and `secret` of administration requests (own; RFC 6749, 2.2 and
-- 2.3.1).
--   is_secret      what a secret may be
--   digest_asked   the digest of a required secret
--   client_asked   the dot of a required client id
use Rattle.std.specs.Prelude.{
  ℕ,
  Bool,
  ◌&&◌,
  nat_le,
  List,
  length,
  Option,
  Some,
  None,
  Result,
  Ok,
  Err,
  if◌then◌else◌,
}
use Rattle.std.specs.List.{list_all}
use Rattle.sha2.specs.Sha256.{sha256}
use Rattle.tk_handle.specs.declared.dot.Dot.{Dot}
use Rattle.tk_handle.specs.ClientId.{client_in}
use Rattle.tk_fact.specs.Subject.{is_visible}
use Rattle.tk_authorize.specs.declared.admin_refusal.AdminRefusal.{AdminRefusal}
use Rattle.tk_authorize.specs.declared.admin_refusal.AdminRefusal.TheVariants.{
  MissingParameter,
  MissingSecret,
  MalformedSecret,
  UnknownClient,
}

-- the greatest number of bytes of a client's secret (own)
abbrev pub max_secret_bytes : ℕ
max_secret_bytes = 128

-- the secret has 1 to 128 visible bytes (own)
abbrev pub is_secret : List ℕ → Bool
is_secret secret = nat_le 1 (length secret) && nat_le (length secret) max_secret_bytes
    && list_all is_visible secret

-- the digest of a required secret: facts keep the digest alone (own)
abbrev pub digest_asked : Option (List ℕ) → Result (List ℕ) AdminRefusal
digest_asked None = Err MissingSecret
digest_asked (Some secret) = if is_secret secret then Ok (sha256 secret) else Err MalformedSecret

-- the dot of a client id, or a refusal if the text is no client id (own)
abbrev pub client_by : Option Dot → Result Dot AdminRefusal
client_by None = Err UnknownClient
client_by (Some d) = Ok d

-- the dot of a required client id (own)
abbrev pub client_asked : Option (List ℕ) → Result Dot AdminRefusal
client_asked None = Err MissingParameter
client_asked (Some id) = client_by (client_in id)
