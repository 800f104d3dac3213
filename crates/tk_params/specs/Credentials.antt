-- The client credentials that a request presents (RFC 6749, 2.3 and 2.3.1).
--   CredentialsFields   an id and a secret, either of which may be absent
--   Presented           credentials, or credentials in two places, or an unreadable header
--   shown               the credentials of a header, or of a body without one
--   presented_in        what a header and parameters present
use Rattle.std.specs.Prelude.{ℕ, List, length, codes, Option, Some, None, is_some, if◌then◌else◌}
use Rattle.std.specs.Prelude.{◌==◌}
use Rattle.std.specs.Str.{bytes_eq}
use Rattle.tk_params.specs.Basic.{basic_of}
use Rattle.tk_params.specs.Params.{Pairs, value_of}

-- an id and a secret, either of which may be absent (RFC 6749, 2.3.1)
pub record CredentialsFields : Type 0 where
  pub id : Option (List ℕ)
  pub secret : Option (List ℕ)

-- credentials in two places; or an unreadable header; or credentials, whose fields are absent if
-- nothing was sent
pub data Presented : Type 0 where
  Mixed : Presented
  Unreadable : Presented
  Presents : (credentials : CredentialsFields) → Presented

-- a secret, absent if it is empty (RFC 6749, 2.3.1: an empty secret may be left out)
abbrev pub secret_in : List ℕ → Option (List ℕ)
secret_in secret = if length secret == 0 then None else Some secret

-- the credentials of a Basic header: its id, even if empty, and its secret
abbrev pub of_basic : List ℕ × List ℕ → CredentialsFields
of_basic basic = record { id = Some basic.0; secret = secret_in basic.1 }

-- the credentials of a Basic header, if there is one; otherwise an id and a secret of the body
abbrev pub shown : Option (List ℕ × List ℕ) → Option (List ℕ) → Option (List ℕ) → CredentialsFields
shown None id secret = record { id = id; secret = secret }
shown (Some basic) id secret = of_basic basic

-- the credentials of a Basic header, unless the body names another client
abbrev pub beside_body : List ℕ × List ℕ → Option (List ℕ) → Presented
beside_body basic None = Presents (of_basic basic)
beside_body basic (Some id) = if bytes_eq basic.0 id then Presents (of_basic basic) else Mixed

-- the credentials of a header, if the header is readable
abbrev pub by_basic : Option (List ℕ × List ℕ) → Option (List ℕ) → Presented
by_basic None id = Unreadable
by_basic (Some basic) id = beside_body basic id

-- the credentials of the body: `client_id` and `client_secret`
abbrev pub of_body : Pairs → CredentialsFields
of_body params =
    record {
      id = value_of (codes "client_id") params;
      secret = value_of (codes "client_secret") params;
    }

-- the credentials of a request: without a header those of the body; otherwise those of the header,
-- and the body has no secret, since a request uses one method (RFC 6749, 2.3)
abbrev pub presented_in : Option (List ℕ) → Pairs → Presented
presented_in None params = Presents (of_body params)
presented_in (Some header) params =
    if is_some (value_of (codes "client_secret") params) then Mixed
    else by_basic (basic_of header) (value_of (codes "client_id") params)
