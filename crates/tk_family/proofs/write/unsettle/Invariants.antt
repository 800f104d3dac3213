use Rattle.std.specs.FinMap as map
use Rattle.std.proofs.Common.{◌≡◌, take}
use Rattle.tk_handle.specs.declared.dot.Dot.{Dot}
use Rattle.tk_family.specs.Rows.{table}
use Rattle.tk_family.specs.Writes.{unsettled}
use Rattle.tk_family.proofs.write.unsettle.Given as goal

abbrev pub invariant-loop-at : goal.invariant-loop-at
invariant-loop-at l = record {
  rows : (q : Dot) → table l.rows q ≡ unsettled (table l.initial.rows) (take l.at-index l.list) q;
  len : map.len l.rows ≡ map.len l.initial.rows;
}
