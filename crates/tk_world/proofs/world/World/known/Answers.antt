use Rattle.std.proofs.Common.{subst}
use Rattle.tk_world.specs.WorldFields.{store_in}
use Rattle.tk_world.specs.WorldStands.{IsStanding}
use Rattle.tk_world.proofs.PromiseLaws.{revoked_inactive, families_inactive}
use Rattle.tk_world.proofs.RequestStands.{answers_for}
use Rattle.tk_world.proofs.world.World.known.Goals as goal

pub returns-clause-stands : goal.returns-clause-stands
returns-clause-stands c = subst IsStanding c.self.view_is c.self.invariant.2

pub returns-clause-answers : goal.returns-clause-answers
returns-clause-answers c = answers_for c.args.self.now

pub returns-clause-revoked : goal.returns-clause-revoked
returns-clause-revoked c = revoked_inactive (store_in c.args.self.now)

pub returns-clause-families : goal.returns-clause-families
returns-clause-families c = families_inactive (store_in c.args.self.now)
