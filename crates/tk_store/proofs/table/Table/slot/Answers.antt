use Rattle.std.proofs.Common.{sym}
use Rattle.std.specs.Option.{option_copied}
use Rattle.tk_store.proofs.TableLaws.{shown, shown_none}
use Rattle.tk_store.proofs.table.Table.slot.Goals as goal

pub returns-in-Some : goal.returns-in-Some
returns-in-Some c = shown c.self.inside.kept c.args.self.now c.self.view_is c.self.invariant.home
    c.args.dot c.slot_of.result (option_copied c.in-Some.kept)
    (sym c.in-Some.ensures) c.slot_of.ensures

pub returns-in-None : goal.returns-in-None
returns-in-None c =
    shown_none c.self.inside.kept c.args.self.now c.self.view_is c.args.dot (sym c.in-None.ensures)
