use Rattle.tk_store.proofs.TableWalkLaws.{last_serial_is}
use Rattle.tk_store.proofs.table.Table.last_serial.Goals as goal

pub returns-clause-value : goal.returns-clause-value
returns-clause-value c = last_serial_is c.self.inside.kept c.args.self.now c.self.view_is
    c.args.region c.last_serial.result c.last_serial.ensures.last
