-- A login whose code was redeemed is not dead, so the ledger returns what ends it.
use Rattle.std.proofs.Common.{◌≡◌, Some, ◌∙◌, rules}
use Rattle.tk_store.specs.StoreFields.{held_facts}
use Rattle.tk_ledger.specs.Logins.{login_view}
use Rattle.tk_ledger.specs.declared.status.State.TheVariants as state
use Rattle.tk_authorize.proofs.LoginLaws.{used_ends}
use Rattle.tk_authorize.proofs.logins.log_out_at.Goals as goal

pub returns-in-Used-clause-value : goal.returns-in-Used-clause-value
returns-in-Used-clause-value c =
    let facts = held_facts c.args.ledger.now in
    let there : login_view facts c.args.now c.args.code ≡ Some c.in-Some.login = search rules in
    let used : c.in-Some.login.state ≡ state.Used = search rules in
    c.end_by.ensures.value
    ∙ used_ends facts c.args.now c.args.code c.in-Some.login c.ending.result there used
    c.ending.ensures.value
