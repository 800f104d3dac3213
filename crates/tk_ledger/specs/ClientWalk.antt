-- The clients of a fact set, by their dots, and a walk over them (own; RFC 6749, 2).
--   clients_in     all clients that were added, by their dots
--   WalksClients   one step of a walk over clients
use Rattle.std.specs.Prelude.{Option}
use Rattle.std.specs.FinMap as map
use Rattle.tk_handle.specs.declared.dot.Dot.{Dot}
use Rattle.tk_handle.specs.Dot.{dot_cmp}
use Rattle.tk_store.specs.FactSet.{FactSet}
use Rattle.tk_ledger.specs.SubjectWalk.{shown_in, Walks}
use Rattle.tk_ledger.specs.ViewFields.{ClientFields}
use Rattle.tk_ledger.specs.Views.{client_view}

-- the clients that were added, live or not, by their dots (RFC 6749, 2)
abbrev pub clients_in : FactSet → map.FinMap dot_cmp ClientFields
clients_in F = shown_in F (client_view F)

-- one step of a walk: the first client above a dot, or above none, behind which the others are; or
-- nothing, if no client is above (own)
abbrev pub WalksClients : FactSet → Option Dot → Option (Dot × ClientFields) → Type 0
WalksClients F after step = Walks (clients_in F) after step
