use Rattle.std.proofs.Common.{◌≡◌, rules, nat_lt, sym, subst, ◌∙◌, None, arith}
use borrow.Author.Tests.{tests}
use Rattle.std.proofs.lemmas.Iterator.Splits.{YieldsList-from_slice_split}
use Rattle.std.proofs.lemmas.Iterator.Consumers.{YieldsList-turn, YieldsList-end}
use Rattle.std.proofs.lemmas.Grind.{common_steps}
use Rattle.std.proofs.lemmas.List.Sorted.{answers_always}
use Rattle.tk_vector.specs.VectorText.{IsRising, is_comma}
use Rattle.tk_vector.proofs.VectorTextLaws.{rising, entry_there, none_rising}
use Rattle.tk_vector.proofs.text.dots.Goals as goal

pub returns-in_err-ok_or-clause-malformed : goal.returns-in_err-ok_or-clause-malformed
returns-in_err-ok_or-clause-malformed c _ =
    let at = YieldsList-turn
    (YieldsList-from_slice_split _ is_comma c.args.text.now (cc) (cc) (cc)
    (λ x b q k. search (rules, tests))) c.loop-entry.yielded _ c.loop-entry.yielded_by _ _
    c.in-Some.entry c.in-Some.is c.next.ensures.steps in
    let none : c.read_text.result ≡ None = grind arith in
    entry_there c.args.text.now c.in-Some.entry.now _ at (rw none at c.read_text.ensures.none)

pub returns-then-is_sorted_by-clause-found : goal.returns-then-is_sorted_by-clause-found
returns-then-is_sorted_by-clause-found c =
    let all = YieldsList-end
    (YieldsList-from_slice_split _ is_comma c.args.text.now (cc) (cc) (cc)
    (λ x b q k. search (rules, tests))) c.loop-entry.yielded _ c.loop-entry.yielded_by _ _
    c.in-None.is c.next.ensures.steps in
    let sorted = c.is_sorted_by.ensures.cases (λ one next. nat_lt one.region next.region)
    (answers_always _ _ _ (λ f a r f' called. search (rules, tests))) in
    record {
      ranges = c.loop-entry.invariant.1;
      spelled = sym all.0 ∙ c.loop-entry.invariant.0;
      rising = subst IsRising c.deref.ensures.value (rising _ _ sorted c.if-is_sorted_by.true);
    }

pub returns-else-is_sorted_by-clause-malformed : goal.returns-else-is_sorted_by-clause-malformed
returns-else-is_sorted_by-clause-malformed c _ =
    let all = YieldsList-end
    (YieldsList-from_slice_split _ is_comma c.args.text.now (cc) (cc) (cc)
    (λ x b q k. search (rules, tests))) c.loop-entry.yielded _ c.loop-entry.yielded_by _ _
    c.in-None.is c.next.ensures.steps in
    let sorted = c.is_sorted_by.ensures.cases (λ one next. nat_lt one.region next.region)
    (answers_always _ _ _ (λ f a r f' called. search (rules, tests))) in
    none_rising c.args.text.now c.loop-entry.dots.items _ (sym all.0 ∙ c.loop-entry.invariant.0)
    c.loop-entry.invariant.1 (rw c.deref.ensures.value at sorted) c.if-is_sorted_by.false

pub loop-entry-preserved : goal.loop-entry-preserved
loop-entry-preserved c = grind (arith, common_steps)
