use Rattle.std.proofs.Common.{◌≡◌, Some, None}
use Rattle.std.specs.FinMap as sets
use Rattle.tk_fact.specs.declared.body.Body.{Body}
use Rattle.tk_store.specs.Slots.{held_slot}
use Rattle.tk_store.proofs.TableLaws.{table_skipped, put_slots, inserted, held_there, held_known}
use Rattle.tk_store.proofs.TableLaws.{some_is, some_held}
use Rattle.tk_store.proofs.table.Table.skip.Goals as goal

pub skip-requires : goal.skip-requires
skip-requires c = held_there c.self.inside.kept c.args.self.now c.self.view_is c.args.dot
    (held_known _ c.requires)

pub overflow_sub-self : goal.overflow_sub-self
overflow_sub-self c =
    let there : (x : Body) × (held_slot (sets.get c.args.self.now c.args.dot) ≡ Some x) =
    some_is _ c.requires in
    some_held c.self.inside.kept c.self.inside.held c.self.invariant c.args.self.now c.self.view_is
    c.skip.new.self c.args.dot there.0 there.1

pub invariant_of-self : goal.invariant_of-self
invariant_of-self c =
    let there : (x : Body) × (held_slot (sets.get c.args.self.now c.args.dot) ≡ Some x) =
    some_is _ c.requires in
    table_skipped c.self.inside.kept c.self.inside.held c.self.invariant c.args.self.now
    c.self.view_is c.skip.new.self c.args.dot there.0 there.1
    (inserted c.self.inside.kept c.skip.new.self c.args.dot None c.skip.ensures)

pub returns : goal.returns
returns c =
    put_slots c.self.inside.kept c.args.self.now c.self.view_is c.skip.new.self c.args.dot None
    (inserted c.self.inside.kept c.skip.new.self c.args.dot None c.skip.ensures)
