use Rattle.std.proofs.Common.{refl}
use Rattle.tk_store.specs.StoreFields.{held_facts}
use Rattle.tk_ledger.specs.declared.change.Change.TheVariants as change
use Rattle.tk_ledger.proofs.ChangeLaws.{revoke_ties, links_before}
use Rattle.tk_ledger.proofs.TableChangeLaws.{revoke_row, revocations_same, same_outs, same_reuses}
use Rattle.tk_ledger.proofs.ForestIndexLaws.{index_revoke, index_back}
use Rattle.tk_ledger.proofs.index.revoke_token.Goals as goal

pub wake-requires-clause-revocations : goal.wake-requires-clause-revocations
wake-requires-clause-revocations c = revoke_row (held_facts c.args.facts.now) c.args.dot
    c.args.fact.now c.args.index.now.revocations c.revoke.new.revocations c.requires.change
    c.requires.indexed.revocations_are c.revoke.ensures.ranged c.in-Ok.ensures.ok

pub wake-requires-clause-outs : goal.wake-requires-clause-outs
wake-requires-clause-outs c = same_outs (held_facts c.args.facts.now) c.args.dot
    (change.Revoke c.args.fact.now) c.args.index.now.outs c.requires.change refl
    c.requires.indexed.outs_are

pub wake-requires-clause-reuses : goal.wake-requires-clause-reuses
wake-requires-clause-reuses c = same_reuses (held_facts c.args.facts.now) c.args.dot
    (change.Revoke c.args.fact.now) c.args.index.now.reuses c.requires.change
    (λ _. refl) c.requires.indexed.reuses_are

pub wake-requires-clause-links : goal.wake-requires-clause-links
wake-requires-clause-links c = links_before (held_facts c.args.facts.now) c.args.dot
    (change.Revoke c.args.fact.now) c.args.index.now.forest c.requires.change refl
    c.requires.indexed.tied

pub returns-in-Ok-clause-ok : goal.returns-in-Ok-clause-ok
returns-in-Ok-clause-ok c = index_revoke (held_facts c.args.facts.now) c.args.dot c.args.fact.now
    c.args.index.now c.revoke.new.revocations c.wake.new.forest c.requires.change c.requires.indexed
    (revoke_row (held_facts c.args.facts.now) c.args.dot c.args.fact.now
    c.args.index.now.revocations c.revoke.new.revocations c.requires.change
    c.requires.indexed.revocations_are c.revoke.ensures.ranged c.in-Ok.ensures.ok)
    (revoke_ties (held_facts c.args.facts.now) c.args.dot c.args.fact.now c.args.index.now.forest
    c.wake.new.forest c.requires.change c.requires.indexed.tied c.wake.ensures)

pub returns-in-Err-clause-err : goal.returns-in-Err-clause-err
returns-in-Err-clause-err c = index_back _ c.args.index.now c.revoke.new.revocations
    c.args.index.now.codes c.args.index.now.logins c.args.index.now.outs c.args.index.now.reuses
    c.args.index.now.forest c.requires.indexed
    (revocations_same (held_facts c.args.facts.now) c.args.dot c.args.index.now.revocations
    c.revoke.new.revocations c.requires.indexed.revocations_are c.in-Err.ensures.err)
    c.requires.indexed.codes_are c.requires.indexed.logins_are c.requires.indexed.outs_are
    c.requires.indexed.reuses_are c.requires.indexed.tied
