use Rattle.std.proofs.Common.{◌∙◌, ap, sym, arith, rules, get_or, None, Some, List, Option, ◌≡◌}
use Rattle.tk_dots.proofs.SlotLaws.{push_none}
use Rattle.tk_dots.proofs.slots.trim.Goals as goal

pub loop-slots-preserved : goal.loop-slots-preserved
loop-slots-preserved g c =
    let popped : c.pop.result ≡ Some None = search rules in
    let split = rw popped at c.pop.ensures.items in
    let shorter = rw popped at c.pop.ensures.cases in
    record {
      items = λ j. sym (push_none c.pop.new.self.items j)
          ∙ ap (λ (xs : List (Option g.row.V.Denot)). get_or xs j None) (sym split)
          ∙ c.loop-slots.invariant.items j;
      len = omega (arith, c.loop-slots.invariant.len);
    }
