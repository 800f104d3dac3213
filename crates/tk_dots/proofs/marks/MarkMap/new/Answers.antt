use Rattle.tk_dots.proofs.MarkLaws.{marked_empty, apart_empty}
use Rattle.tk_dots.proofs.marks.MarkMap.new.Goals as goal

pub invariant_of-result : goal.invariant_of-result
invariant_of-result g c = apart_empty c.new.result c.new-2.result c.new-2.ensures

pub returns : goal.returns
returns g c = marked_empty c.new.result c.new-2.result c.new.ensures c.new-2.ensures
