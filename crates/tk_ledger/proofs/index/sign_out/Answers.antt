use Rattle.std.proofs.Common.{ℕ, ◌&&◌, refl, subst}
use Rattle.std.specs.Prelude.{nat_le}
use Rattle.tk_family.specs.Dots.{has}
use Rattle.tk_store.specs.StoreFields.{held_facts}
use Rattle.tk_ledger.specs.Index.{Wakes}
use Rattle.tk_ledger.specs.Changes.{digest_prefix}
use Rattle.tk_ledger.specs.SubjectTables.{codes_started, dots_of}
use Rattle.tk_ledger.specs.declared.change.Change.TheVariants as change
use Rattle.tk_ledger.proofs.ChangeLaws.{links_before, out_ties}
use Rattle.tk_ledger.proofs.TableChangeLaws.{out_row, outs_same, same_revocations, same_codes}
use Rattle.tk_ledger.proofs.TableChangeLaws.{same_reuses}
use Rattle.tk_ledger.proofs.ForestIndexLaws.{index_out, index_back}
use Rattle.tk_ledger.proofs.index.sign_out.Goals as goal

pub wake_started-requires-clause-revocations : goal.wake_started-requires-clause-revocations
wake_started-requires-clause-revocations c =
    same_revocations (held_facts c.args.facts.now) c.args.dot
    (change.SignOut c.args.subject.now c.args.moment) c.args.index.now.revocations c.requires.change
    (λ _ _ _. refl) c.requires.indexed.revocations_are

pub wake_started-requires-clause-outs : goal.wake_started-requires-clause-outs
wake_started-requires-clause-outs c = out_row (held_facts c.args.facts.now) c.args.dot
    c.args.subject.now c.args.moment c.args.index.now.outs c.list_out.new.outs c.requires.change
    c.requires.indexed.outs_are c.list_out.ensures.ranged c.list_out.ensures.early
    c.in-Ok.ensures.ok

pub wake_started-requires-clause-reuses : goal.wake_started-requires-clause-reuses
wake_started-requires-clause-reuses c = same_reuses (held_facts c.args.facts.now) c.args.dot
    (change.SignOut c.args.subject.now c.args.moment) c.args.index.now.reuses c.requires.change
    (λ _. refl) c.requires.indexed.reuses_are

pub wake_started-requires-clause-links : goal.wake_started-requires-clause-links
wake_started-requires-clause-links c = links_before (held_facts c.args.facts.now) c.args.dot
    (change.SignOut c.args.subject.now c.args.moment) c.args.index.now.forest c.requires.change refl
    c.requires.indexed.tied

pub returns-in-Ok-clause-ok : goal.returns-in-Ok-clause-ok
returns-in-Ok-clause-ok c = index_out (held_facts c.args.facts.now) c.args.dot c.args.subject.now
    c.args.moment c.args.index.now c.list_out.new.outs c.wake_started.new.forest c.requires.change
    c.requires.indexed
    (out_row (held_facts c.args.facts.now) c.args.dot c.args.subject.now c.args.moment
    c.args.index.now.outs c.list_out.new.outs c.requires.change c.requires.indexed.outs_are
    c.list_out.ensures.ranged c.list_out.ensures.early c.in-Ok.ensures.ok)
    (out_ties (held_facts c.args.facts.now) c.args.dot c.args.subject.now c.args.moment
    c.first_left-first.result c.args.index.now.codes c.args.index.now.forest
    c.wake_started.new.forest c.requires.change c.requires.indexed.tied
    (same_codes (held_facts c.args.facts.now) c.args.dot
    (change.SignOut c.args.subject.now c.args.moment) c.args.index.now.codes c.requires.change refl
    c.requires.indexed.codes_are) c.first_left-first.ensures
    (subst (λ (n : ℕ).
    Wakes (held_facts c.args.facts.now) c.args.index.now.forest
    (λ q. nat_le c.first_left-first.result n
    && has (dots_of
    (codes_started c.args.index.now.codes (digest_prefix c.args.subject.now)
    c.first_left-first.result n)) q)
    c.wake_started.new.forest) c.seconds-last.ensures.value
    (subst (λ (g : ℕ).
    Wakes (held_facts c.args.facts.now) c.args.index.now.forest
    (λ q. nat_le c.first_left-first.result c.seconds-last.result
    && has (dots_of
    (codes_started c.args.index.now.codes g c.first_left-first.result c.seconds-last.result)) q)
    c.wake_started.new.forest) c.digest_prefix-prefix.ensures c.wake_started.ensures)))

pub returns-in-Err-clause-err : goal.returns-in-Err-clause-err
returns-in-Err-clause-err c = index_back _ c.args.index.now c.args.index.now.revocations
    c.args.index.now.codes c.args.index.now.logins c.list_out.new.outs c.args.index.now.reuses
    c.args.index.now.forest c.requires.indexed c.requires.indexed.revocations_are
    c.requires.indexed.codes_are c.requires.indexed.logins_are
    (outs_same (held_facts c.args.facts.now) c.args.dot c.args.index.now.outs c.list_out.new.outs
    c.requires.indexed.outs_are c.in-Err.ensures.err) c.requires.indexed.reuses_are
    c.requires.indexed.tied
