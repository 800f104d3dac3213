-- The URIs that the reply to an authorization request may lead to (RFC 6749, 3.1.2.3, 3.1.2.4 and
-- 10.15; RFC 8252, 7.3).
--   IsMeant          a URI is the one that was sent, or the only one of the client
--   IsRegistered     a URI matches a registered one of the live client that the parameters name
--   IsAtRegistered   a location is such a URI with parameters in its query, one at least
--   LeadsToClient    a reply leads to such a URI or to no URI
use Rattle.std.specs.Prelude.{◌≡◌, ◌⊎◌, ℕ, true, List, [], ◌∷◌, codes, Option, Some, None}
use Rattle.std.specs.Prelude.{IfSome, Any}
use Rattle.std.specs.Option.{option_and_then}
use Rattle.tk_handle.specs.declared.dot.Dot.{Dot}
use Rattle.tk_handle.specs.ClientId.{client_in}
use Rattle.tk_match.specs.Pick.{Matches}
use Rattle.tk_match.specs.ReplyUri.{reply_of}
use Rattle.tk_store.specs.FactSet.{FactSet}
use Rattle.tk_ledger.specs.Views.{client_view}
use Rattle.tk_ledger.specs.ViewFields.{ClientFields}
use Rattle.tk_params.specs.Params.{Pairs, value_of}
use Rattle.tk_message.specs.ReplyFields.{ReplyFields}

-- the URI is the one that was sent, or no URI was sent and the client has this one alone (RFC 6749,
-- 3.1.2.3)
abbrev pub IsMeant : Option (List ℕ) → List (List ℕ) → List ℕ → Type 0
IsMeant sent redirects uri =
    (sent ≡ Some uri) ⊎ ((sent ≡ None) × (redirects ≡ uri ∷ []))

-- the URI is the one that the request means, and matches one of the client that the parameters
-- name, which is live: it is that URI (RFC 6749, 3.1.2.3), or of this machine and differs from it
-- in the port alone (RFC 8252, 7.3)
pub record IsRegistered (F : FactSet) (params : Pairs) (uri : List ℕ) : Type 0 where
  pub client : Dot
  pub view : ClientFields
  pub named : option_and_then client_in (value_of (codes "client_id") params) ≡ Some client
  pub added : client_view F client ≡ Some view
  pub live : view.live ≡ true
  pub meant : IsMeant (value_of (codes "redirect_uri") params) view.redirects uri
  pub registered : Any (λ registered. Matches registered uri) view.redirects

-- the location is such a URI with one parameter or more in its query (RFC 6749, 4.1.2 and 4.1.2.1)
pub record IsAtRegistered (F : FactSet) (params : Pairs) (location : List ℕ) : Type 0 where
  pub uri : List ℕ
  pub known : IsRegistered F params uri
  pub first : List ℕ × List ℕ
  pub others : Pairs
  pub location_is : location ≡ reply_of uri (first ∷ others)

-- the reply leads to a URI that matches a registered one of the client that the parameters name, or
-- to no URI (RFC 6749, 3.1.2.4 and 10.15)
abbrev pub LeadsToClient : FactSet → Pairs → ReplyFields → Type 0
LeadsToClient F params reply = IfSome reply.location (IsAtRegistered F params)
