use Rattle.std.proofs.Common.{◌≡◌, [], true, false, rules, arith}
use Rattle.tk_edge.proofs.FrontLaws.{partial_cut, silent_comes}
use Rattle.tk_edge.proofs.HeadLaws.{no_head_of_none}
use Rattle.tk_edge.proofs.front.nothing_front.Goals as goal

pub returns-then-is_over : goal.returns-then-is_over
returns-then-is_over c = λ reach.
    let over : c.args.is_over ≡ true = search rules in
    rw (c.ending.ensures) (silent_comes reach c.args.is_over over)

pub returns-else-is_over : goal.returns-else-is_over
returns-else-is_over c = λ reach.
    let over : c.args.is_over ≡ false = search rules in
    record {
      unended = over;
      fewer = omega arith;
      cut = λ came is. partial_cut reach [] no_head_of_none came is;
    }
