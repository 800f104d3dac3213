use Rattle.std.proofs.Common.{◌≡◌, List, filter_map, sym, ap, subst, ◌∙◌}
use Rattle.std.specs.BTreeMap.Range.{entries_between}
use Rattle.std.specs.List.{filter_map}
use Rattle.std.specs.declared.ops.Bound.{Bound}
use Rattle.std.specs.declared.ops.Bound.TheVariants.{Unbounded}
use Rattle.tk_handle.specs.declared.dot.Dot.{Dot}
use Rattle.tk_handle.specs.Dot.{dot_cmp}
use Rattle.tk_store.specs.FactSet.{FactSet}
use Rattle.tk_store.specs.StoreFields.{held_facts}
use Rattle.tk_ledger.specs.Index.{IsClients}
use Rattle.tk_ledger.specs.declared.client_rows.ClientRow.{ClientRow}
use Rattle.tk_ledger.specs.ClientWalk.{clients_in}
use Rattle.tk_ledger.specs.SubjectWalk.{seen}
use Rattle.tk_ledger.specs.Views.{client_view}
use Rattle.tk_ledger.proofs.ClientWalkLaws.{start_above, walk_rows}
use Rattle.tk_ledger.proofs.DotWalkLaws.{walk_first}
use Rattle.tk_ledger.proofs.ledger.Ledger.first_client.Goals as goal
use Rattle.tk_ledger.proofs.ledger.Ledger.first_client.Goals.{in-Some, in-None}

pub loop-client-init : goal.loop-client-init
loop-client-init c =
    let start : c.match-after.start ≡ start_above c.args.after = elim c.match-after.branch [
      | in-Some w ↦ w.start-is ∙ ap start_above (sym w.in-Some.is)
      | in-None w ↦ w.start-is ∙ ap start_above (sym w.in-None.is)
    ] in
    ap (λ (l : List (Dot × ClientRow)).
    filter_map (seen (client_view (held_facts c.args.self.now))) l)
    (c.into_iter-client-iterator.ensures.into_iter_gives ∙ c.range-client-items.ensures.between tt
    ∙ ap (λ (b : Bound Dot).
    entries_between dot_cmp b Unbounded c.self.inside.index.clients.entries) start)
    ∙ walk_rows (held_facts c.args.self.now) c.self.inside.index.clients
    (subst (λ (F : FactSet). IsClients F c.self.inside.index.clients) (ap held_facts c.self.view_is)
    c.self.invariant.clients_are)
    c.range-client-items.ensures.ordered c.args.after

pub returns-in-Some-client : goal.returns-in-Some-client
returns-in-Some-client c =
    walk_first (clients_in (held_facts c.args.self.now)) (client_view (held_facts c.args.self.now))
    c.args.after
    (c.in-Some-2.client.now, c.in-Some-2.field-0-1.now) c.next.new.self c.in-Some-client.view
    (sym c.client.ensures ∙ c.in-Some-client.is)
    (ap (λ (l : List (Dot × ClientRow)).
    filter_map (seen (client_view (held_facts c.args.self.now))) l)
    (sym c.in-Some-2.ensures.steps)
    ∙ c.loop-client.invariant)
