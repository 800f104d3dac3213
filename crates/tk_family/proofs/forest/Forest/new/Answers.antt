use Rattle.std.proofs.Common.{ap, ◌∙◌, arith}
use Rattle.std.specs.FinMap as map
use Rattle.tk_handle.specs.declared.dot.Dot.{Dot}
use Rattle.tk_handle.specs.Dot.{dot_cmp}
use Rattle.tk_family.specs.declared.row.Row.{Row}
use Rattle.tk_family.specs.Rows.{RowMap, table}
use Rattle.tk_family.proofs.Modelling.{IsForest-empty, Hangs-empty}
use Rattle.tk_family.proofs.Viewing.{links_none, marks_none}
use Rattle.tk_family.proofs.forest.Forest.new.Goals as goal

pub invariant_of-result : goal.invariant_of-result
invariant_of-result c =
    let none =
    λ (q : Dot). ap (λ (m : RowMap). map.get m q) c.new.ensures ∙ map.get-empty dot_cmp q in (
      IsForest-empty (table c.new.result) none,
      Hangs-empty (table c.new.result) c.new-2.result none c.new-2.ensures.empty,
      omega (arith, ap map.len c.new.ensures ∙ map.len-empty dot_cmp Row),
    )

pub returns-clause-links : goal.returns-clause-links
returns-clause-links c = links_none c.new.result c.new.ensures

pub returns-clause-marks : goal.returns-clause-marks
returns-clause-marks c = marks_none c.new.result c.new.ensures
