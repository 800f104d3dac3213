use Rattle.std.proofs.Common.{◌≡◌, ◌++◌, ◌-◌, ◌≤◌}
use Rattle.json.specs.Tree.{items_tokens}
use Rattle.serde_json.specs.Written.{items_outline}
use Rattle.tk_store.specs.StoreFields.{held_facts}
use Rattle.tk_store.specs.Walk.{above}
use Rattle.tk_ledger.specs.ClientWalk.{clients_in}
use Rattle.tk_message.specs.ClientPage.{listed_body}
use Rattle.tk_message.specs.Page.{max_listed, listed, cursor_of}
use Rattle.tk_message.proofs.client_page.put_clients.Given as goal

-- what is written, with what is left to write, is the page; its cursor is that of what is left
abbrev pub invariant-loop : goal.invariant-loop
invariant-loop l =
    (l.counter ≤ max_listed) × (l.out.before ≡ l.fn.out.before)
    × (l.out.tokens
    ++ items_tokens
    (items_outline
    (listed listed_body (max_listed - l.counter) (above (clients_in (held_facts l.ledger)) l.at)))
    ≡ l.fn.out.tokens
    ++ items_tokens
    (items_outline
    (listed listed_body max_listed (above (clients_in (held_facts l.ledger)) l.fn.after))))
    × (cursor_of (max_listed - l.counter) l.at (above (clients_in (held_facts l.ledger)) l.at)
    ≡ cursor_of max_listed l.fn.after (above (clients_in (held_facts l.ledger)) l.fn.after))
