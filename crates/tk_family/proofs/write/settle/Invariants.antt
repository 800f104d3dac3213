use Rattle.std.specs.FinMap as map
use Rattle.std.proofs.Common.{◌≡◌, take}
use Rattle.tk_handle.specs.declared.dot.Dot.{Dot}
use Rattle.tk_family.specs.Rows.{table}
use Rattle.tk_family.specs.Writes.{settled}
use Rattle.tk_family.proofs.write.settle.Given as goal

abbrev pub invariant-loop-at : goal.invariant-loop-at
invariant-loop-at l = record {
  rows : (q : Dot)
      → table l.rows q ≡ settled (table l.initial.rows) (take l.at-index l.list) l.fn.code q;
  len : map.len l.rows ≡ map.len l.initial.rows;
}
