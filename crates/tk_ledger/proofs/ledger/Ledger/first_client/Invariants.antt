use Rattle.std.proofs.Common.{◌≡◌}
use Rattle.std.specs.List.{filter_map}
use Rattle.tk_store.specs.StoreFields.{held_facts}
use Rattle.tk_store.specs.Walk.{above}
use Rattle.tk_ledger.specs.ClientWalk.{clients_in}
use Rattle.tk_ledger.specs.SubjectWalk.{seen}
use Rattle.tk_ledger.specs.Views.{client_view}
use Rattle.tk_ledger.proofs.ledger.Ledger.first_client.Given as goal

-- the clients of the rows that are left are those above the dot
abbrev pub invariant-loop-client : goal.invariant-loop-client
invariant-loop-client l = filter_map (seen (client_view (held_facts l.self))) l.client-iterator
    ≡ above (clients_in (held_facts l.self)) l.fn.after
