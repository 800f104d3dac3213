use Rattle.std.proofs.Common.{◌∙◌, ap, arith, get_or, None, Some, List, Option, ◌==◌, cond}
use Rattle.std.proofs.Common.{length, ◌≡◌}
use Rattle.tk_dots.proofs.SlotLaws.{push_none, push_some}
use Rattle.tk_dots.proofs.slots.extend.Goals as goal

pub loop-slots-preserved : goal.loop-slots-preserved
loop-slots-preserved g c = record {
  len = omega arith;
  room = omega arith;
  items = λ j. ap (λ (xs : List (Option g.row.V.Denot)). get_or xs j None)
      c.push_reserved.ensures.items
      ∙ push_none c.loop-slots.slots.items j ∙ c.loop-slots.invariant.items j;
}

pub returns-clause-items : goal.returns-clause-items
returns-clause-items g c = λ j.
    let full : length c.loop-slots.slots.items ≡ c.args.at = omega (arith, c.loop-slots.slots.ok) in
    ap (λ (xs : List (Option g.row.V.Denot)). get_or xs j None) c.push_reserved-2.ensures.items
    ∙ push_some c.loop-slots.slots.items c.args.value c.args.at j full
    ∙ ap (cond (j == c.args.at) (Some c.args.value)) (c.loop-slots.invariant.items j)
