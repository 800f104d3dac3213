use Rattle.std.proofs.Common.{refl}
use Rattle.std.specs.FinMap as map
use Rattle.tk_store.specs.StoreFields.{held_facts}
use Rattle.tk_ledger.specs.declared.change.Change.TheVariants as change
use Rattle.tk_ledger.proofs.ChangeLaws.{change_link}
use Rattle.tk_ledger.proofs.ForestIndexLaws.{index_issue, index_back}
use Rattle.tk_ledger.proofs.LoginTableLaws.{login_row, login_dropped, logins_alike}
use Rattle.tk_ledger.proofs.TableChangeLaws.{code_row, codes_same, same_revocations, same_outs}
use Rattle.tk_ledger.proofs.TableChangeLaws.{same_reuses}
use Rattle.tk_ledger.proofs.TableLossLaws.{code_dropped}
use Rattle.tk_ledger.proofs.index.issue_code.Goals as goal

pub returns-in-Err-clause-err : goal.returns-in-Err-clause-err
returns-in-Err-clause-err c = index_back _ c.args.index.now c.args.index.now.revocations
    c.list_code.new.codes c.args.index.now.logins c.args.index.now.outs c.args.index.now.reuses
    c.args.index.now.forest c.requires.indexed c.requires.indexed.revocations_are
    (codes_same (held_facts c.args.facts.now) c.args.dot c.args.index.now.codes
    c.list_code.new.codes c.requires.indexed.codes_are c.in-Err.ensures.err)
    c.requires.indexed.logins_are c.requires.indexed.outs_are c.requires.indexed.reuses_are
    c.requires.indexed.tied

pub returns-in-Err-list_login-clause-err : goal.returns-in-Err-list_login-clause-err
returns-in-Err-list_login-clause-err c = index_back _ c.args.index.now c.args.index.now.revocations
    c.drop_code.new.codes c.list_login.new.logins c.args.index.now.outs c.args.index.now.reuses
    c.args.index.now.forest c.requires.indexed c.requires.indexed.revocations_are
    (code_dropped (held_facts c.args.facts.now) c.args.dot c.args.prefix c.args.start
    c.list_code.new.codes c.drop_code.new.codes c.requires.change
    (code_row (held_facts c.args.facts.now) c.args.dot c.args.prefix c.args.start
    c.args.index.now.codes c.list_code.new.codes c.requires.change c.requires.indexed.codes_are
    c.list_code.ensures.ranged c.in_default.ensures.ok) c.drop_code.ensures)
    (logins_alike (map.remove (held_facts c.args.facts.now) c.args.dot) c.args.index.now.logins
    c.list_login.new.logins c.requires.indexed.logins_are c.in-Err-list_login.ensures.err)
    c.requires.indexed.outs_are c.requires.indexed.reuses_are c.requires.indexed.tied

pub put_link-requires-clause-link : goal.put_link-requires-clause-link
put_link-requires-clause-link c = change_link (held_facts c.args.facts.now) c.args.dot
    (change.Issue c.args.prefix c.args.start) c.requires.change

pub put_link-requires-clause-revocations : goal.put_link-requires-clause-revocations
put_link-requires-clause-revocations c = same_revocations (held_facts c.args.facts.now) c.args.dot
    (change.Issue c.args.prefix c.args.start) c.args.index.now.revocations c.requires.change
    (λ _ _ _. refl) c.requires.indexed.revocations_are

pub put_link-requires-clause-outs : goal.put_link-requires-clause-outs
put_link-requires-clause-outs c = same_outs (held_facts c.args.facts.now) c.args.dot
    (change.Issue c.args.prefix c.args.start) c.args.index.now.outs c.requires.change refl
    c.requires.indexed.outs_are

pub put_link-requires-clause-reuses : goal.put_link-requires-clause-reuses
put_link-requires-clause-reuses c = same_reuses (held_facts c.args.facts.now) c.args.dot
    (change.Issue c.args.prefix c.args.start) c.args.index.now.reuses c.requires.change
    (λ _. refl) c.requires.indexed.reuses_are

pub returns-in-Ok-clause-ok : goal.returns-in-Ok-clause-ok
returns-in-Ok-clause-ok c = index_issue (held_facts c.args.facts.now) c.args.dot c.args.prefix
    c.args.start c.args.index.now c.list_code.new.codes c.list_login.new.logins
    c.put_link.new.forest c.requires.change c.requires.indexed
    (code_row (held_facts c.args.facts.now) c.args.dot c.args.prefix c.args.start
    c.args.index.now.codes c.list_code.new.codes c.requires.change c.requires.indexed.codes_are
    c.list_code.ensures.ranged c.in_default.ensures.ok)
    (login_row (held_facts c.args.facts.now) c.args.dot c.args.prefix c.args.start
    c.args.index.now.logins c.list_login.new.logins c.requires.change
    c.requires.indexed.logins_are c.list_login.ensures.ranged
    c.in_default-list_login.ensures.ok)
    c.in-Ok.ensures.ok

pub returns-in-Err-put_link-clause-err : goal.returns-in-Err-put_link-clause-err
returns-in-Err-put_link-clause-err c = index_back _ c.args.index.now c.args.index.now.revocations
    c.drop_code-in-Err-put_link.new.codes c.drop_login.new.logins c.args.index.now.outs
    c.args.index.now.reuses c.put_link.new.forest c.requires.indexed
    c.requires.indexed.revocations_are
    (code_dropped (held_facts c.args.facts.now) c.args.dot c.args.prefix c.args.start
    c.list_code.new.codes c.drop_code-in-Err-put_link.new.codes c.requires.change
    (code_row (held_facts c.args.facts.now) c.args.dot c.args.prefix c.args.start
    c.args.index.now.codes c.list_code.new.codes c.requires.change c.requires.indexed.codes_are
    c.list_code.ensures.ranged c.in_default.ensures.ok) c.drop_code-in-Err-put_link.ensures)
    (login_dropped (held_facts c.args.facts.now) c.args.dot c.args.prefix c.args.start
    c.list_login.new.logins c.drop_login.new.logins c.requires.change
    (login_row (held_facts c.args.facts.now) c.args.dot c.args.prefix c.args.start
    c.args.index.now.logins c.list_login.new.logins c.requires.change
    c.requires.indexed.logins_are c.list_login.ensures.ranged
    c.in_default-list_login.ensures.ok) c.drop_login.ensures)
    c.requires.indexed.outs_are c.requires.indexed.reuses_are c.in-Err-put_link.ensures.err
