use Rattle.std.proofs.Common.{◌≡◌, ◌++◌, ◌-◌, ◌≤◌, ℕ, [], codes, refl, sym, ap, ◌∙◌, arith}
use Rattle.json.specs.Tree.{items_tokens}
use Rattle.serde_json.specs.Data.{Items}
use Rattle.serde_json.specs.Written.{items_outline}
use Rattle.tk_store.specs.StoreFields.{held_facts}
use Rattle.tk_store.specs.Walk.{above}
use Rattle.tk_ledger.specs.SubjectWalk.{logins_of}
use Rattle.tk_ledger.specs.ViewFields.{LoginFields}
use Rattle.tk_message.specs.Page.{max_listed, listed, cursor_of}
use Rattle.tk_message.specs.SubjectPage.{login_item}
use Rattle.tk_message.proofs.PageLaws.{listed_none, cursor_none, tokens_more, cursor_more, one_left}
use Rattle.tk_message.proofs.PageLaws.{none_left, opened_of}
use Rattle.tk_message.proofs.subject_page.put_logins.Goals as goal

pub loop-init : goal.loop-init
loop-init c = (
  omega arith,
  c.in_ok-begin_array.ensures.room.0 ∙ c.in_ok-key.ensures.room.0,
  opened_of _ _ _
      (items_tokens
      (items_outline
      (listed login_item max_listed
      (above (logins_of (held_facts c.args.ledger.now) c.args.now c.args.subject.now)
      c.args.after))))
      (codes "logins") c.in_ok-key.ensures.ok c.in_ok-begin_array.ensures.ok,
  refl,
)

pub returns-in_default-clause-ok : goal.returns-in_default-clause-ok
returns-in_default-clause-ok c =
    let none
    : above (logins_of (held_facts c.args.ledger.now) c.args.now c.args.subject.now) c.loop.at
    ≡ [] =
    c.in_default.ensures in
    c.in_ok-end_array.ensures.ok
    ∙ ap (λ (ds : Items). c.loop.out.tokens ++ items_tokens (items_outline ds))
    (sym (ap (listed login_item (max_listed - c.loop.counter)) none
    ∙ listed_none login_item (max_listed - c.loop.counter)))
    ∙ c.loop.invariant.2

pub returns-in_default-clause-next : goal.returns-in_default-clause-next
returns-in_default-clause-next c =
    let none
    : above (logins_of (held_facts c.args.ledger.now) c.args.now c.args.subject.now) c.loop.at
    ≡ [] =
    c.in_default.ensures in
    sym (ap (cursor_of (max_listed - c.loop.counter) c.loop.at) none
    ∙ cursor_none LoginFields (max_listed - c.loop.counter) c.loop.at)
    ∙ c.loop.invariant.3

pub loop-preserved : goal.loop-preserved
loop-preserved c = (
  omega (arith, c.loop-test.true),
  c.in_ok-put_login.ensures.before ∙ c.loop.invariant.1,
  tokens_more login_item c.loop.out.tokens c.put_login.new.out.tokens _
      (max_listed - c.loop.counter) _ c.in-Some.next _ _
      (one_left c.loop.counter c.loop-test.true) c.in-Some.ensures c.in_ok-put_login.ensures.ok
      c.loop.invariant.2,
  cursor_more (max_listed - c.loop.counter) _ c.loop.at _ c.in-Some.next _ _
      (one_left c.loop.counter c.loop-test.true) c.in-Some.ensures c.loop.invariant.3,
)

pub returns-clause-ok : goal.returns-clause-ok
returns-clause-ok c =
    let full : max_listed ≤ c.loop.counter = omega (arith, c.loop-test.false) in
    c.in_ok-end_array-2.ensures.ok
    ∙ ap (λ (k : ℕ).
    c.loop.out.tokens
    ++ items_tokens
    (items_outline
    (listed login_item k
    (above (logins_of (held_facts c.args.ledger.now) c.args.now c.args.subject.now)
    c.loop.at))))
    (sym (none_left c.loop.counter full))
    ∙ c.loop.invariant.2

pub returns-clause-next : goal.returns-clause-next
returns-clause-next c =
    let full : max_listed ≤ c.loop.counter = omega (arith, c.loop-test.false) in
    c.login_cursor.ensures
    ∙ ap (λ (k : ℕ).
    cursor_of k c.loop.at
    (above (logins_of (held_facts c.args.ledger.now) c.args.now c.args.subject.now) c.loop.at))
    (sym (none_left c.loop.counter full))
    ∙ c.loop.invariant.3
