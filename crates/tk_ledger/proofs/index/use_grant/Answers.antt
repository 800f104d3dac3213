use Rattle.std.proofs.Common.{refl}
use Rattle.tk_store.specs.StoreFields.{held_facts}
use Rattle.tk_ledger.specs.declared.change.Change.TheVariants as change
use Rattle.tk_ledger.proofs.ChangeLaws.{change_link}
use Rattle.tk_handle.proofs.TestLaws.{ok_then as on_ok}
use Rattle.tk_ledger.proofs.TableChangeLaws.{same_revocations, same_outs, same_reuses}
use Rattle.tk_ledger.proofs.ForestIndexLaws.{index_put}
use Rattle.tk_ledger.proofs.index.use_grant.Goals as goal

pub put_link-requires-clause-link : goal.put_link-requires-clause-link
put_link-requires-clause-link c =
    change_link (held_facts c.args.facts.now) c.args.dot (change.Put c.args.link) c.requires.change

pub put_link-requires-clause-revocations : goal.put_link-requires-clause-revocations
put_link-requires-clause-revocations c = same_revocations (held_facts c.args.facts.now) c.args.dot
    (change.Put c.args.link) c.args.index.now.revocations c.requires.change
    (λ _ _ _. refl) c.requires.indexed.revocations_are

pub put_link-requires-clause-outs : goal.put_link-requires-clause-outs
put_link-requires-clause-outs c = same_outs (held_facts c.args.facts.now) c.args.dot
    (change.Put c.args.link) c.args.index.now.outs c.requires.change refl
    c.requires.indexed.outs_are

pub put_link-requires-clause-reuses : goal.put_link-requires-clause-reuses
put_link-requires-clause-reuses c = same_reuses (held_facts c.args.facts.now) c.args.dot
    (change.Put c.args.link) c.args.index.now.reuses c.requires.change
    (λ _. refl) c.requires.indexed.reuses_are

pub returns-clause-ok : goal.returns-clause-ok
returns-clause-ok c = on_ok c.put_link.result _ _ c.put_link.ensures.ok
    (λ t. index_put (held_facts c.args.facts.now) c.args.dot c.args.link c.args.index.now
    c.put_link.new.forest c.requires.change c.requires.indexed t)
