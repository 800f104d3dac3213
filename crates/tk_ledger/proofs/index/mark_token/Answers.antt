use Rattle.std.proofs.Common.{refl}
use Rattle.tk_store.specs.StoreFields.{held_facts}
use Rattle.tk_ledger.specs.declared.change.Change.TheVariants as change
use Rattle.tk_ledger.proofs.ChangeLaws.{links_before, mark_ties}
use Rattle.tk_ledger.proofs.TableChangeLaws.{reuse_row, reuses_same, same_revocations, same_outs}
use Rattle.tk_ledger.proofs.ForestIndexLaws.{index_mark, index_back}
use Rattle.tk_ledger.proofs.index.mark_token.Goals as goal

pub wake-requires-clause-revocations : goal.wake-requires-clause-revocations
wake-requires-clause-revocations c = same_revocations (held_facts c.args.facts.now) c.args.dot
    (change.Mark c.args.token) c.args.index.now.revocations c.requires.change
    (λ _ _ _. refl) c.requires.indexed.revocations_are

pub wake-requires-clause-outs : goal.wake-requires-clause-outs
wake-requires-clause-outs c = same_outs (held_facts c.args.facts.now) c.args.dot
    (change.Mark c.args.token) c.args.index.now.outs c.requires.change refl
    c.requires.indexed.outs_are

pub wake-requires-clause-reuses : goal.wake-requires-clause-reuses
wake-requires-clause-reuses c = reuse_row (held_facts c.args.facts.now) c.args.dot c.args.token
    c.args.index.now.reuses c.list_reuse.new.reuses c.requires.change c.requires.indexed.reuses_are
    c.list_reuse.ensures.ranged c.in-Ok.ensures.ok

pub wake-requires-clause-links : goal.wake-requires-clause-links
wake-requires-clause-links c = links_before (held_facts c.args.facts.now) c.args.dot
    (change.Mark c.args.token) c.args.index.now.forest c.requires.change refl
    c.requires.indexed.tied

pub returns-in-Ok-clause-ok : goal.returns-in-Ok-clause-ok
returns-in-Ok-clause-ok c = index_mark (held_facts c.args.facts.now) c.args.dot c.args.token
    c.args.index.now c.list_reuse.new.reuses c.wake.new.forest c.requires.change c.requires.indexed
    (reuse_row (held_facts c.args.facts.now) c.args.dot c.args.token c.args.index.now.reuses
    c.list_reuse.new.reuses c.requires.change c.requires.indexed.reuses_are
    c.list_reuse.ensures.ranged c.in-Ok.ensures.ok)
    (mark_ties (held_facts c.args.facts.now) c.args.dot c.args.token c.args.index.now.forest
    c.wake.new.forest c.requires.change c.requires.indexed.tied c.wake.ensures)

pub returns-in-Err-clause-err : goal.returns-in-Err-clause-err
returns-in-Err-clause-err c = index_back _ c.args.index.now c.args.index.now.revocations
    c.args.index.now.codes c.args.index.now.logins c.args.index.now.outs c.list_reuse.new.reuses
    c.args.index.now.forest c.requires.indexed c.requires.indexed.revocations_are
    c.requires.indexed.codes_are c.requires.indexed.logins_are c.requires.indexed.outs_are
    (reuses_same (held_facts c.args.facts.now) c.args.dot c.args.index.now.reuses
    c.list_reuse.new.reuses c.requires.indexed.reuses_are c.in-Err.ensures.err)
    c.requires.indexed.tied
