use Rattle.tk_family.proofs.Modelling.{top_seen}
use Rattle.tk_family.proofs.forest.Forest.top.Goals as goal

pub returns-clause-top : goal.returns-clause-top
returns-clause-top c = top_seen c.self.inside.rows c.args.self.now c.self.view_is c.args.dot
    c.top_of.result c.top_of.ensures.top
