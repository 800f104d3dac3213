use Rattle.tk_store.proofs.TableLaws.{held_there}
use Rattle.tk_store.proofs.table.Table.known.Goals as goal

pub returns : goal.returns
returns c =
    λ d h. c.known.ensures d (held_there c.self.inside.kept c.args.self.now c.self.view_is d h)
