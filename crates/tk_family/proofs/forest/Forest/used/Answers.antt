use Rattle.tk_family.proofs.Modelling.{used_seen}
use Rattle.tk_family.proofs.forest.Forest.used.Goals as goal

pub returns-clause-used : goal.returns-clause-used
returns-clause-used c = used_seen c.self.inside.rows c.args.self.now c.self.view_is c.args.token
    c.is_used.result c.is_used.ensures.used
