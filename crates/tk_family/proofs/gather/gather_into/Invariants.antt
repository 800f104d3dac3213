use Rattle.std.specs.FinMap as map
use Rattle.std.proofs.Common.{◌≤◌, ◌-◌, vec_capacity}
use Rattle.tk_family.proofs.Gathering.{Gathering}
use Rattle.tk_family.proofs.gather.gather_into.Given as goal

abbrev pub invariant-loop-i : goal.invariant-loop-i
invariant-loop-i l = record {
  gathering : Gathering l.rows l.dot l.link l.list.items l.i;
  capacity : vec_capacity l.fn.list ≤ vec_capacity l.list;
}

abbrev pub decreases-loop-i : goal.decreases-loop-i
decreases-loop-i l = map.len l.rows - l.i
