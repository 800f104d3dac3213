use Rattle.std.proofs.Common.{ap, ◌∙◌, Some}
use Rattle.std.specs.FinMap as map
use Rattle.tk_store.specs.StoreFields.{held_facts}
use Rattle.tk_ledger.specs.declared.change.Change.{Change}
use Rattle.tk_ledger.proofs.ChangeLaws.{on_ok2}
use Rattle.tk_handle.proofs.TestLaws.{err_then as on_err}
use Rattle.tk_handle.proofs.TestLaws.{ok_then as on_ok}
use Rattle.tk_ledger.proofs.IndexLaws.{index_add, index_retire, index_give, index_withdraw}
use Rattle.tk_ledger.proofs.IndexLaws.{index_nothing}
use Rattle.tk_ledger.proofs.SecretIndexLaws.{index_secret, index_secrets}
use Rattle.tk_ledger.proofs.SecretTableLaws.{secret_row, secrets_alike}
use Rattle.tk_ledger.proofs.index.follow.Goals as goal

pub returns-in-Add-clause-ok : goal.returns-in-Add-clause-ok
returns-in-Add-clause-ok c =
    on_ok2 c.add_client.result _ _ _ c.add_client.ensures.added c.add_client.ensures.retired
    (λ a r. index_add (held_facts c.args.facts.now) c.args.dot c.args.index.now
    c.add_client.new.clients (c.requires.change ∙ ap (λ (x : Change). Some x) c.in-Add.is)
    c.requires.indexed a r)

pub returns-in-Retire-clause-ok : goal.returns-in-Retire-clause-ok
returns-in-Retire-clause-ok c = on_ok2 c.retire_client.result _ _ _ c.retire_client.ensures.retired
    c.retire_client.ensures.added
    (λ r a. index_retire (held_facts c.args.facts.now) c.args.dot c.in-Retire.client
    c.args.index.now c.retire_client.new.clients
    (c.requires.change ∙ ap (λ (x : Change). Some x) c.in-Retire.is) c.requires.indexed r a)

pub returns-in-Give-clause-ok : goal.returns-in-Give-clause-ok
returns-in-Give-clause-ok c = on_ok c.give.result _ _ c.give.ensures.ok
    (λ g. index_give (held_facts c.args.facts.now) c.args.dot c.in-Give.client c.in-Give.subject
    c.args.index.now c.give.new.consents
    (c.requires.change ∙ ap (λ (x : Change). Some x) c.in-Give.is) c.requires.indexed
    c.give.ensures.ranged c.give.ensures.client_ranged g)

pub returns-in-Withdraw-clause-ok : goal.returns-in-Withdraw-clause-ok
returns-in-Withdraw-clause-ok c =
    on_ok2 c.withdraw.result _ _ _ c.withdraw.ensures.ok c.withdraw.ensures.unlisted
    (λ w u. index_withdraw (held_facts c.args.facts.now) c.args.dot c.in-Withdraw.consent
    c.args.index.now c.withdraw.new.consents c.withdraw.new.withdrawn
    (c.requires.change ∙ ap (λ (x : Change). Some x) c.in-Withdraw.is) c.requires.indexed w u)

pub returns-in-Nothing-clause-ok : goal.returns-in-Nothing-clause-ok
returns-in-Nothing-clause-ok c = index_nothing (held_facts c.args.facts.now) c.args.dot
    c.args.index.now (c.requires.change ∙ ap (λ (x : Change). Some x) c.in-Nothing.is)
    c.requires.indexed

pub returns-in-SetSecret-clause-ok : goal.returns-in-SetSecret-clause-ok
returns-in-SetSecret-clause-ok c = on_ok c.list_secret.result _ _ c.list_secret.ensures.ok
    (λ r. index_secret (held_facts c.args.facts.now) c.args.dot c.in-SetSecret.client
    c.in-SetSecret.turn c.in-SetSecret.digest c.args.index.now c.list_secret.new.secrets
    (c.requires.change ∙ ap (λ (x : Change). Some x) c.in-SetSecret.is) c.requires.indexed
    (secret_row (held_facts c.args.facts.now) c.args.dot c.in-SetSecret.client c.in-SetSecret.turn
    c.in-SetSecret.digest c.args.index.now.secrets c.list_secret.new.secrets
    (c.requires.change ∙ ap (λ (x : Change). Some x) c.in-SetSecret.is)
    c.requires.indexed.secrets_are c.list_secret.ensures.ranged c.list_secret.ensures.sized
    c.list_secret.ensures.early r))

pub returns-in-SetSecret-clause-err : goal.returns-in-SetSecret-clause-err
returns-in-SetSecret-clause-err c = on_err c.list_secret.result _ _ c.list_secret.ensures.err
    (λ same. index_secrets (map.remove (held_facts c.args.facts.now) c.args.dot) c.args.index.now
    c.list_secret.new.secrets c.requires.indexed
    (secrets_alike (map.remove (held_facts c.args.facts.now) c.args.dot) c.args.index.now.secrets
    c.list_secret.new.secrets c.requires.indexed.secrets_are same))
