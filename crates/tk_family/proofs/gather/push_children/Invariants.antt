use Rattle.std.proofs.Common.{◌≤◌, vec_capacity}
use Rattle.tk_family.specs.Rows.{table, links_of}
use Rattle.tk_family.proofs.ChildLaws.{dots_of}
use Rattle.tk_family.proofs.Hanging.{Pushing}
use Rattle.tk_family.proofs.gather.push_children.Given as goal

abbrev pub invariant-loop-child : goal.invariant-loop-child
invariant-loop-child l = record {
  pushing : Pushing (links_of (table l.rows)) l.fn.dot l.above (dots_of l.child-iterator)
      l.fn.list.items l.list.items;
  capacity : vec_capacity l.fn.list ≤ vec_capacity l.list;
}
