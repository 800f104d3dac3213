-- The decision of a request for a page of clients, GET /admin/clients (own).
--   after_named   the client behind which the page begins, if one is named
--   listed_by     the decision by that client
--   listing_of    the decision of a request
use Rattle.std.specs.Prelude.{ℕ, List, [], ◌∷◌, codes, Option, Some, None, Result, Ok, Err}
use Rattle.std.specs.Prelude.{if◌then◌else◌}
use Rattle.tk_handle.specs.declared.dot.Dot.{Dot}
use Rattle.tk_handle.specs.ClientId.{client_in}
use Rattle.tk_store.specs.FactSet.{FactSet}
use Rattle.tk_params.specs.Params.{Pairs, value_of, has_twice}
use Rattle.tk_message.specs.declared.decision.Decision.{Decision}
use Rattle.tk_message.specs.declared.status_code.StatusCode.TheVariants as status
use Rattle.tk_message.specs.ClientPage.{clients_body}
use Rattle.tk_message.specs.Decision.{answered, refused}
use Rattle.tk_message.specs.Reply.{json_reply}
use Rattle.tk_authorize.specs.declared.admin_refusal.AdminRefusal.{AdminRefusal}
use Rattle.tk_authorize.specs.declared.admin_refusal.AdminRefusal.TheVariants.{
  DuplicateParameter,
  UnknownClient,
}
use Rattle.tk_authorize.specs.Administration.{code_of}

-- the names of the parameters that GET /admin/clients knows (own)
abbrev pub listing_names : List (List ℕ)
listing_names = codes "after" ∷ []

-- the dot of a client id, whether or not a client has it, or a refusal if the text is none (own)
abbrev pub after_by : Option Dot → Result (Option Dot) AdminRefusal
after_by None = Err UnknownClient
after_by (Some client) = Ok (Some client)

-- the dot of the client id that may be sent (own)
abbrev pub after_asked : Option (List ℕ) → Result (Option Dot) AdminRefusal
after_asked None = Ok None
after_asked (Some id) = after_by (client_in id)

-- the dot of the client behind which the page begins, which must not be named twice (own)
abbrev pub after_named : Pairs → Result (Option Dot) AdminRefusal
after_named params =
    if has_twice listing_names params then Err DuplicateParameter
    else after_asked (value_of (codes "after") params)

-- the page of the clients behind one, or a refusal; no fact is made (own)
abbrev pub listed_by : FactSet → Result (Option Dot) AdminRefusal → Decision
listed_by F (Err why) = refused (code_of why)
listed_by F (Ok after) = answered (json_reply status.Ok (clients_body F after))

-- the decision of GET /admin/clients (own)
abbrev pub listing_of : FactSet → Pairs → Decision
listing_of F params = listed_by F (after_named params)
