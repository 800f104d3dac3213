-- What contracts see of a request (RFC 6749, 3.1 and 3.2; RFC 9110 for the header).
use Rattle.std.specs.Prelude.{ℕ, List, Option}
use Rattle.tk_params.specs.Params.{Pairs}
use Rattle.tk_message.specs.declared.request.Endpoint.{Endpoint}

-- the endpoint, the parameters, and the bytes of `Authorization`, `X-Subject` and `X-Operator`
pub record RequestFields : Type 0 where
  pub endpoint : Endpoint
  pub params : Pairs
  pub authorization : Option (List ℕ)
  pub subject : Option (List ℕ)
  pub operator : Option (List ℕ)
