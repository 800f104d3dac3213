use Rattle.std.proofs.Common.{◌≡◌, ◌==◌, true, inl, inr, rules, arith}
use borrow.Author.Tests.{tests}
use Rattle.std.proofs.lemmas.Grind.{common_steps}
use Rattle.std.proofs.lemmas.Iterator.Splits.{YieldsList-from_slice_split}
use Rattle.std.proofs.lemmas.Iterator.Consumers.{YieldsList-from_enumerate, YieldsList-so_far}
use Rattle.std.proofs.lemmas.Iterator.Consumers.{YieldsList-turn, YieldsList-end}
use Rattle.tokend.specs.Script.{is_told, lines_of}
use Rattle.tokend.proofs.EventWords.{short_pushed, words_pushed}
use Rattle.tokend.proofs.ScriptEvents.{told_line, all_lines, first_bad, grown_told}
use Rattle.tokend.proofs.script.read_events.Goals as goal

pub loop-at-preserved : goal.loop-at-preserved
loop-at-preserved c =
    let told : is_told c.in-Some.line.now ≡ true =
    told_line c.in-Some.line.now (grind arith) (λ e. grind arith) in
    record {
      can_next = search rules;
      is_finite = search rules;
      few = grind (arith, common_steps);
      words = rw c.in_ok-push-in-Ok-2.ensures.items
          (words_pushed c.loop-at.events.items c.in-Ok.event c.loop-at.invariant.words
          (search rules));
      short = rw c.in_ok-push-in-Ok-2.ensures.items
          (short_pushed c.args.longest c.loop-at.events.items c.in-Ok.event
          c.loop-at.invariant.short (λ long. search rules));
      events = grown_told c.loop-at.yielded (c.in-Some.at, c.in-Some.line) c.loop-at.events.items _
          c.in-Ok.event c.in_ok-push-in-Ok-2.ensures.items c.loop-at.invariant.events told
          c.in-Ok.ensures.found;
    }

pub returns-in-Err-Malformed-clause-fault : goal.returns-in-Err-Malformed-clause-fault
returns-in-Err-Malformed-clause-fault c =
    let told : is_told c.in-Some.line.now ≡ true =
    told_line c.in-Some.line.now (grind arith) (λ e. grind arith) in
    let lines = YieldsList-from_enumerate
    (YieldsList-from_slice_split _ (λ b. b == 10) c.args.script.now (cc) (cc) (cc)
    (λ x b q k. search (rules, tests))) (cc) in
    let some = YieldsList-so_far lines c.loop-at.yielded _ c.loop-at.yielded_by in
    let turn = YieldsList-turn lines c.loop-at.yielded _ c.loop-at.yielded_by _ _
    (c.in-Some.at, c.in-Some.line) c.in-Some.is c.next.ensures.steps in
    first_bad c.args.longest c.args.script.now c.loop-at.yielded (c.in-Some.at, c.in-Some.line)
    c.loop-at.events.items some turn c.loop-at.invariant.events told
    (inl (c.read_line.ensures.malformed (cc)))

pub returns-in-Ok-clause-fault : goal.returns-in-Ok-clause-fault
returns-in-Ok-clause-fault c =
    let told : is_told c.in-Some.line.now ≡ true =
    told_line c.in-Some.line.now (grind arith) (λ e. grind arith) in
    let lines = YieldsList-from_enumerate
    (YieldsList-from_slice_split _ (λ b. b == 10) c.args.script.now (cc) (cc) (cc)
    (λ x b q k. search (rules, tests))) (cc) in
    let some = YieldsList-so_far lines c.loop-at.yielded _ c.loop-at.yielded_by in
    let turn = YieldsList-turn lines c.loop-at.yielded _ c.loop-at.yielded_by _ _
    (c.in-Some.at, c.in-Some.line) c.in-Some.is c.next.ensures.steps in
    first_bad c.args.longest c.args.script.now c.loop-at.yielded (c.in-Some.at, c.in-Some.line)
    c.loop-at.events.items some turn c.loop-at.invariant.events told
    (inr (c.in-Ok.event, c.in-Ok.ensures.found, c.is_too_long.ensures.0 c.if-is_too_long.true))

pub returns-clause-found : goal.returns-clause-found
returns-clause-found c =
    let all = YieldsList-end
    (YieldsList-from_enumerate
    (YieldsList-from_slice_split _ (λ b. b == 10) c.args.script.now (cc) (cc) (cc)
    (λ x b q k. search (rules, tests))) (cc)) c.loop-at.yielded _ c.loop-at.yielded_by _ _
    c.in-None.is c.next.ensures.steps in
    rw (all_lines (lines_of c.args.script.now) c.loop-at.yielded all.0) at
    c.loop-at.invariant.events
