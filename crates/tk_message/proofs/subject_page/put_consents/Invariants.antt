use Rattle.std.proofs.Common.{◌≡◌, ◌++◌, ◌-◌, ◌≤◌, codes}
use Rattle.json.specs.Tree.{items_tokens}
use Rattle.serde_json.specs.Written.{items_outline}
use Rattle.tk_store.specs.StoreFields.{held_facts}
use Rattle.tk_store.specs.Walk.{above}
use Rattle.tk_ledger.specs.SubjectWalk.{consents_of}
use Rattle.tk_message.specs.Page.{max_listed, listed, cursor_of}
use Rattle.tk_message.specs.SubjectPage.{consent_item}
use Rattle.tk_message.proofs.SubjectPageLaws.{array_written}
use Rattle.tk_message.proofs.subject_page.put_consents.Given as goal

-- what is written, with what is left to write, is the page; its cursor is that of what is left
abbrev pub invariant-loop : goal.invariant-loop
invariant-loop l =
    (l.counter ≤ max_listed) × (l.out.before ≡ l.fn.out.before)
    × (l.out.tokens
    ++ items_tokens
    (items_outline
    (listed consent_item (max_listed - l.counter)
    (above (consents_of (held_facts l.ledger) l.subject) l.at)))
    ≡ l.fn.out.tokens
    ++ array_written (codes "consents")
    (listed consent_item max_listed
    (above (consents_of (held_facts l.ledger) l.subject) l.fn.after)))
    × (cursor_of (max_listed - l.counter) l.at
    (above (consents_of (held_facts l.ledger) l.subject) l.at)
    ≡ cursor_of max_listed l.fn.after
    (above (consents_of (held_facts l.ledger) l.subject) l.fn.after))
