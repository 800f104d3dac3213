use Rattle.std.specs.Option.{option_copied}
use Rattle.tk_store.proofs.TableWalkLaws.{walks_on, walks_out}
use Rattle.tk_store.proofs.table.Table.next_after.Goals as goal

pub returns-in-Some : goal.returns-in-Some
returns-in-Some c = walks_on c.self.inside.kept c.args.self.now c.self.view_is c.args.after
    c.self.invariant.home c.in-Some.next.0 (option_copied c.in-Some.next.1) c.slot_of.result
    c.in-Some.ensures c.slot_of.ensures

pub returns-in-None : goal.returns-in-None
returns-in-None c =
    walks_out c.self.inside.kept c.args.self.now c.self.view_is c.args.after c.in-None.ensures
