use Rattle.tk_family.specs.ForestFacts.{links_at}
use Rattle.tk_family.proofs.Modelling.{IsUser, user_seen}
use Rattle.tk_family.proofs.forest.Forest.user.Goals as goal

-- the user that the rows show is the token's user by the links
seen : (c : goal.After-user_of) → IsUser (links_at c.args.self.now) c.args.token c.user_of.result
seen c = user_seen c.self.inside.rows c.args.self.now c.self.view_is c.args.token c.user_of.result
    (c.user_of.ensures.some, c.user_of.ensures.none)

pub returns-clause-some : goal.returns-clause-some
returns-clause-some c = (seen c).0

pub returns-clause-none : goal.returns-clause-none
returns-clause-none c = (seen c).1
