use Rattle.std.proofs.Common.{refl, subst}
use Rattle.tk_store.specs.StoreFields.{held_facts}
use Rattle.tk_ledger.specs.Losses.{WasIndexed}
use Rattle.tk_ledger.specs.declared.change.Change.{Change}
use Rattle.tk_ledger.specs.declared.change.Change.TheVariants as change
use Rattle.tk_ledger.proofs.LossLaws.{lost_code, lost_link, lost_revocations, lost_outs}
use Rattle.tk_ledger.proofs.LossLaws.{lost_reuses, less_revocations, less_reuses, lost_links}
use Rattle.tk_ledger.proofs.LossLaws.{lost_reuse, lost_revocation}
use Rattle.tk_ledger.proofs.QuietLoss.{lost_nothing}
use Rattle.tk_ledger.proofs.unfollow.unfollow.Goals as goal

pub wake-requires-in-Mark-clause-revocations : goal.wake-requires-in-Mark-clause-revocations
wake-requires-in-Mark-clause-revocations c =
    lost_revocations (held_facts c.args.facts.now) c.args.dot c.in-Mark.token c.args.index.now
    (subst (λ (y : Change). WasIndexed (held_facts c.args.facts.now) c.args.dot y c.args.index.now)
    c.in-Mark.is c.requires.lost)

pub wake-requires-in-Mark-clause-outs : goal.wake-requires-in-Mark-clause-outs
wake-requires-in-Mark-clause-outs c = lost_outs (held_facts c.args.facts.now) c.args.dot
    (change.Mark c.in-Mark.token) c.args.index.now
    (subst (λ (y : Change). WasIndexed (held_facts c.args.facts.now) c.args.dot y c.args.index.now)
    c.in-Mark.is c.requires.lost) refl

pub wake-requires-in-Mark-clause-reuses : goal.wake-requires-in-Mark-clause-reuses
wake-requires-in-Mark-clause-reuses c = lost_reuses (held_facts c.args.facts.now) c.args.dot
    c.in-Mark.token c.args.index.now c.drop_reuse.new.reuses
    (subst (λ (y : Change). WasIndexed (held_facts c.args.facts.now) c.args.dot y c.args.index.now)
    c.in-Mark.is c.requires.lost) c.drop_reuse.ensures

pub wake-requires-in-Mark-clause-links : goal.wake-requires-in-Mark-clause-links
wake-requires-in-Mark-clause-links c = lost_links (held_facts c.args.facts.now) c.args.dot
    (change.Mark c.in-Mark.token) c.args.index.now
    (subst (λ (y : Change). WasIndexed (held_facts c.args.facts.now) c.args.dot y c.args.index.now)
    c.in-Mark.is c.requires.lost) refl

pub returns-in-Issue : goal.returns-in-Issue
returns-in-Issue c =
    lost_code (held_facts c.args.facts.now) c.args.dot c.in-Issue.prefix c.in-Issue.start
    c.args.index.now c.drop_code.new.codes c.drop_login.new.logins c.take.new.self
    (subst (λ (y : Change). WasIndexed (held_facts c.args.facts.now) c.args.dot y c.args.index.now)
    c.in-Issue.is c.requires.lost)
    c.drop_code.ensures c.drop_login.ensures c.take.ensures.links c.take.ensures.marks

pub returns-in-Put : goal.returns-in-Put
returns-in-Put c =
    lost_link (held_facts c.args.facts.now) c.args.dot c.in-Put.field-0 c.args.index.now
    c.take-in-Put.new.self
    (subst (λ (y : Change). WasIndexed (held_facts c.args.facts.now) c.args.dot y c.args.index.now)
    c.in-Put.is c.requires.lost)
    c.take-in-Put.ensures.links c.take-in-Put.ensures.marks

pub returns-in-Mark : goal.returns-in-Mark
returns-in-Mark c =
    lost_reuse (held_facts c.args.facts.now) c.args.dot c.in-Mark.token c.args.index.now
    c.drop_reuse.new.reuses c.wake-in-Mark.new.forest
    (subst (λ (y : Change). WasIndexed (held_facts c.args.facts.now) c.args.dot y c.args.index.now)
    c.in-Mark.is c.requires.lost)
    c.drop_reuse.ensures c.wake-in-Mark.ensures

pub wake-requires-clause-revocations : goal.wake-requires-clause-revocations
wake-requires-clause-revocations c = less_revocations (held_facts c.args.facts.now) c.args.dot
    c.in-Revoke.fact c.args.index.now c.drop_revocation.new.revocations
    (subst (λ (y : Change). WasIndexed (held_facts c.args.facts.now) c.args.dot y c.args.index.now)
    c.in-Revoke.is c.requires.lost) c.drop_revocation.ensures

pub wake-requires-clause-outs : goal.wake-requires-clause-outs
wake-requires-clause-outs c = lost_outs (held_facts c.args.facts.now) c.args.dot
    (change.Revoke c.in-Revoke.fact) c.args.index.now
    (subst (λ (y : Change). WasIndexed (held_facts c.args.facts.now) c.args.dot y c.args.index.now)
    c.in-Revoke.is c.requires.lost) refl

pub wake-requires-clause-reuses : goal.wake-requires-clause-reuses
wake-requires-clause-reuses c = less_reuses (held_facts c.args.facts.now) c.args.dot
    c.in-Revoke.fact c.args.index.now
    (subst (λ (y : Change). WasIndexed (held_facts c.args.facts.now) c.args.dot y c.args.index.now)
    c.in-Revoke.is c.requires.lost)

pub wake-requires-clause-links : goal.wake-requires-clause-links
wake-requires-clause-links c = lost_links (held_facts c.args.facts.now) c.args.dot
    (change.Revoke c.in-Revoke.fact) c.args.index.now
    (subst (λ (y : Change). WasIndexed (held_facts c.args.facts.now) c.args.dot y c.args.index.now)
    c.in-Revoke.is c.requires.lost) refl

pub returns-in-Revoke : goal.returns-in-Revoke
returns-in-Revoke c =
    lost_revocation (held_facts c.args.facts.now) c.args.dot c.in-Revoke.fact c.args.index.now
    c.drop_revocation.new.revocations c.wake.new.forest
    (subst (λ (y : Change). WasIndexed (held_facts c.args.facts.now) c.args.dot y c.args.index.now)
    c.in-Revoke.is c.requires.lost)
    c.drop_revocation.ensures c.wake.ensures

pub returns-in-Nothing : goal.returns-in-Nothing
returns-in-Nothing c = lost_nothing (held_facts c.args.facts.now) c.args.dot c.args.index.now
    (subst (λ (y : Change). WasIndexed (held_facts c.args.facts.now) c.args.dot y c.args.index.now)
    c.in-Nothing.is c.requires.lost)
