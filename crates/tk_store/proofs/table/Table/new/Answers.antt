use Rattle.tk_store.proofs.TableLaws.{table_none, slots_none}
use Rattle.tk_store.proofs.table.Table.new.Goals as goal

pub invariant_of-result : goal.invariant_of-result
invariant_of-result c = table_none c.new.result c.new.ensures

pub returns : goal.returns
returns c = slots_none c.new.result c.new.ensures
