-- The sender of a request to the token, introspection or revocation endpoint (RFC 6749, 2.3 and
-- 3.2; RFC 7662, 2.1; RFC 7009, 2.1).
--   caller_of   the sender, by the names of the parameters that the endpoint knows
use Rattle.std.specs.Prelude.{ℕ, List, if◌then◌else◌}
use Rattle.tk_store.specs.FactSet.{FactSet}
use Rattle.tk_params.specs.Params.{has_twice}
use Rattle.tk_params.specs.Credentials.{Presented, Mixed, Unreadable, Presents, presented_in}
use Rattle.tk_message.specs.declared.authentication.Authentication.{Authentication}
use Rattle.tk_message.specs.declared.authentication.Authentication.TheVariants as auth
use Rattle.tk_message.specs.declared.caller.Caller.{Caller}
use Rattle.tk_message.specs.declared.caller.Caller.TheVariants.{
  DuplicateParameter,
  MixedCredentials,
  InvalidClient,
  Client,
}
use Rattle.tk_message.specs.Authentication.{authenticated}
use Rattle.tk_message.specs.RequestFields.{RequestFields}

-- the sender by the outcome of authentication: no client is invalid_client (RFC 6749, 3.2.1)
abbrev pub caller_by_auth : Authentication → Caller
caller_by_auth auth.Invalid = InvalidClient
caller_by_auth (auth.Client client) = Client client

-- the sender by the credentials: in two places (RFC 6749, 2.3), in a header that can't be read (RFC
-- 7617, 2), or in one place
abbrev pub caller_by : FactSet → Presented → Caller
caller_by F Mixed = MixedCredentials
caller_by F Unreadable = InvalidClient
caller_by F (Presents credentials) = caller_by_auth (authenticated F credentials)

-- the sender of a request. A parameter that the endpoint knows must not occur twice; other
-- parameters are ignored (RFC 6749, 3.2)
abbrev pub caller_of : FactSet → List (List ℕ) → RequestFields → Caller
caller_of F names request =
    if has_twice names request.params then DuplicateParameter
    else caller_by F (presented_in request.authorization request.params)
