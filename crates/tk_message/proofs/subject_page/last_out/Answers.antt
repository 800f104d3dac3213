use Rattle.std.proofs.Common.{◌≡◌, Some, None, ap, ◌∙◌, rules}
use Rattle.tk_store.specs.StoreFields.{held_facts}
use Rattle.tk_message.proofs.LastSignOutLaws.{last_is}
use Rattle.tk_message.proofs.subject_page.last_out.Goals as goal

pub returns-in-Some : goal.returns-in-Some
returns-in-Some c =
    let seconds : c.seconds.result ≡ c.in-Some.last = search rules in
    ap Some seconds
    ∙ last_is (held_facts c.args.ledger.now) c.args.subject.now (Some c.in-Some.last)
    c.in-Some.ensures.value

pub returns-in-None : goal.returns-in-None
returns-in-None c =
    last_is (held_facts c.args.ledger.now) c.args.subject.now None c.in-None.ensures.value
