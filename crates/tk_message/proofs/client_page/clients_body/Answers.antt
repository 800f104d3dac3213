use Rattle.std.proofs.Common.{◌≡◌, ◌++◌, [], ◌∷◌, codes, Option, sym, ap, ◌∙◌, rules}
use Rattle.json.specs.Token as token
use Rattle.json.specs.Tree.{items_tokens, json_tokens}
use Rattle.serde_json.specs.Data as json
use Rattle.serde_json.specs.Written.{items_outline, outline}
use Rattle.tk_handle.specs.declared.dot.Dot.{Dot}
use Rattle.tk_handle.specs.ClientId.{client_text}
use Rattle.tk_store.specs.StoreFields.{held_facts}
use Rattle.tk_store.specs.Walk.{above}
use Rattle.tk_ledger.specs.ClientWalk.{clients_in}
use Rattle.tk_message.specs.ClientPage.{listed_body, next_member}
use Rattle.tk_message.specs.Page.{max_listed, listed, cursor_of}
use Rattle.tk_message.proofs.PageLaws.{opened, whole_none, whole_some}
use Rattle.tk_message.proofs.client_page.clients_body.Goals as goal
use Rattle.tk_message.proofs.client_page.clients_body.Goals.{in-Some+in_ok-id+in_ok-put_text}
use Rattle.tk_message.proofs.client_page.clients_body.Goals.{in_default}

pub returns : goal.returns
returns c =
    let clients = above (clients_in (held_facts c.args.ledger.now)) c.args.after in
    let page = listed listed_body max_listed clients in
    let next = cursor_of max_listed c.args.after clients in
    let before : c.put_clients.new.out.before ≡ [] =
    c.in_ok-next.ensures.before ∙ c.in_ok-begin_array.ensures.room.0 ∙ c.in_ok-key.ensures.room.0
    ∙ c.in_ok-out.ensures.before in
    let written : c.put_clients.new.out.tokens ≡ opened ++ items_tokens (items_outline page) =
    c.in_ok-next.ensures.ok
    ∙ ap (λ x. x ++ items_tokens (items_outline page))
    (c.in_ok-begin_array.ensures.ok
    ∙ ap (λ x. x ++ token.begin_array ∷ [])
    (c.in_ok-key.ensures.ok
    ∙ ap (λ x. x ++ token.key (codes "clients") ∷ []) c.in_ok-out.ensures.tokens)) in
    c.end.ensures (json.member (codes "clients") (json.array page) (next_member next))
    (elim c.match-next.branch [
      | in-Some+in_ok-id+in_ok-put_text w ↦
          ap (λ x. x.before) w.out-is ∙ w.in_ok-put_text.ensures.before ∙ before
      | in_default w ↦ ap (λ x. x.before) w.out-is ∙ before
    ])
    (elim c.match-next.branch [
      | in-Some+in_ok-id+in_ok-put_text w ↦
          let id : w.as_str.result.now ≡ client_text w.in-Some.client = search rules in
          ap (λ x. x.tokens ++ token.end_object ∷ []) w.out-is
          ∙ whole_some c.put_clients.new.out.tokens w.put_text.new.out.tokens page w.in-Some.client
          written
          (w.in_ok-put_text.ensures.ok
          ∙ ap (λ x. c.put_clients.new.out.tokens ++ token.key (codes "next") ∷ token.string x ∷ [])
          id)
          ∙ ap (λ (o : Option Dot).
          json_tokens
          (outline (json.object (json.member (codes "clients") (json.array page) (next_member o)))))
          (sym w.in-Some.is
          ∙ c.in_ok-next.ensures.next)
      | in_default w ↦
          ap (λ x. x.tokens ++ token.end_object ∷ []) w.out-is
          ∙ whole_none c.put_clients.new.out.tokens page written
          ∙ ap (λ (o : Option Dot).
          json_tokens
          (outline (json.object (json.member (codes "clients") (json.array page) (next_member o)))))
          (sym w.in_default.is
          ∙ c.in_ok-next.ensures.next)
    ])
