use Rattle.std.proofs.Common.{subst, sym}
use Rattle.tk_world.specs.Broken.{Steps}
use Rattle.tk_world.proofs.PartLaws.{request_steps}
use Rattle.tk_world.proofs.world.World.step.Goals as goal

pub returns-in-Request : goal.returns-in-Request
returns-in-Request g c =
    subst (λ event. Steps g.C.Carrier.way c.args.self.now event c.request.result c.request.new.self)
    (sym c.in-Request.is)
    (request_steps g.C.Carrier.way c.args.self.now c.in-Request.region c.in-Request.now _
    c.in-Request.bytes c.request.result c.request.new.self
    (rw c.deref.ensures.value at c.request.ensures))
