use Rattle.std.proofs.Common.{sym, subst, None}
use Rattle.tk_store.specs.Table.{KeptMap, IsTable}
use Rattle.tk_store.proofs.TableLaws.{table_marked, put_slots, inserted, free_there}
use Rattle.tk_store.proofs.table.Table.mark.Goals as goal
use Rattle.tk_handle.proofs.TestLaws.{either_way, on_ok}

pub mark-requires : goal.mark-requires
mark-requires c = free_there c.self.inside.kept c.args.self.now c.self.view_is c.args.dot c.requires

pub invariant_of-self : goal.invariant_of-self
invariant_of-self c = either_way {R = IsTable c.mark.new.self c.self.inside.held} c.mark.result
    c.mark.ensures.ok c.mark.ensures.err
    (λ is. table_marked c.self.inside.kept c.self.inside.held c.self.invariant c.args.self.now
    c.self.view_is c.mark.new.self c.args.dot c.requires is)
    (λ same. subst (λ (m : KeptMap). IsTable m c.self.inside.held) (sym same) c.self.invariant)

pub returns-clause-ok : goal.returns-clause-ok
returns-clause-ok c = on_ok c.mark.result c.mark.ensures.ok (λ is.
    put_slots c.self.inside.kept c.args.self.now c.self.view_is c.mark.new.self c.args.dot None
    (inserted c.self.inside.kept c.mark.new.self c.args.dot None is))
