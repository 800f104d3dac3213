-- A page of clients, as an administrator sees them (own).
--   listed_body    a client of the page
--   clients_body   {"clients":[CLIENT,..],"next":ID}
use Rattle.std.specs.Prelude.{List, codes, Option, Some, None}
use Rattle.serde_json.specs.Data.{Data, Members, no_members, member, string, array, object}
use Rattle.tk_handle.specs.declared.dot.Dot.{Dot}
use Rattle.tk_handle.specs.ClientId.{client_text}
use Rattle.tk_store.specs.FactSet.{FactSet}
use Rattle.tk_store.specs.Walk.{above}
use Rattle.tk_ledger.specs.ClientWalk.{clients_in}
use Rattle.tk_ledger.specs.ViewFields.{ClientFields}
use Rattle.tk_message.specs.Bodies.{shown_body}
use Rattle.tk_message.specs.Page.{max_listed, listed, cursor_of}

-- a client of the page: its id, kind, lives, whether it is live, and its scope (own)
abbrev pub listed_body : Dot × ClientFields → Data
listed_body c = shown_body c.0 c.1.client_kind c.1.lives c.1.live c.1.scope

-- the member that names the client behind which the next page begins (own)
abbrev pub next_member : Option Dot → Members
next_member None = no_members
next_member (Some client) = member (codes "next") (string (client_text client)) no_members

-- the page of these clients, which follow one (own)
abbrev pub page_body : Option Dot → List (Dot × ClientFields) → Data
page_body after clients = object
    (member (codes "clients") (array (listed listed_body max_listed clients))
    (next_member (cursor_of max_listed after clients)))

-- the page of the clients above a dot, or of the first (own)
abbrev pub clients_body : FactSet → Option Dot → Data
clients_body F after = page_body after (above (clients_in F) after)
