use Rattle.std.proofs.Common.{subst, sym}
use Rattle.tk_store.specs.Front.{IsFront}
use Rattle.tk_store.specs.Slots.{Slots, Skipped}
use Rattle.tk_store.specs.StoreFields.{IsKept}
use Rattle.tk_store.proofs.FrontLaws.{kept_marked, past_lowered}
use Rattle.tk_store.proofs.store.skip_new.Goals as goal

pub advance-requires-clause-front : goal.advance-requires-clause-front
advance-requires-clause-front c = c.requires.kept.front_is

pub returns-in-Err-clause-kept : goal.returns-in-Err-clause-kept
returns-in-Err-clause-kept c =
    subst (IsKept c.args.facts.now) (sym c.in-Err.ensures.err) c.requires.kept

pub returns-in-Ok-clause-kept : goal.returns-in-Ok-clause-kept
returns-in-Ok-clause-kept c = kept_marked c.args.facts.now c.mark.new.self c.args.front.now
    c.advance.new.front c.args.dot c.requires.kept c.in-Ok.ensures.ok
    (subst (λ (S : Slots). IsFront S c.advance.new.front) (sym c.in-Ok.ensures.ok)
    (c.in_default.ensures.ok Skipped))

pub returns-in-Err-mark-clause-kept : goal.returns-in-Err-mark-clause-kept
returns-in-Err-mark-clause-kept c =
    rw (c.in-Err-mark.ensures.err, c.lower.ensures, c.region.ensures.value, c.serial.ensures.value)
    (record {
      sound = c.requires.kept.sound;
      front_is = past_lowered c.args.facts.now c.args.dot c.requires.free Skipped
          c.advance.new.front (c.in_default.ensures.ok Skipped) c.serial.ensures.range.0;
    })
