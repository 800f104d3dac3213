use Rattle.std.proofs.Common.{◌-◌, arith}
use Rattle.tokend.proofs.Turning.{goes_unread}
use Rattle.tokend.proofs.server.Server.miss.Goals as goal

pub returns-then-self-gt0-clause-goes : goal.returns-then-self-gt0-clause-goes
returns-then-self-gt0-clause-goes g c = λ log.
    goes_unread c.args.fault c.args.self.now c.draw.new.generator (c.args.self.now.left - 1)
    c.count.new.self log _ _ c.requires c.count.ensures c.draw.ensures.after
    (omega (arith, c.if-self-gt0.true)) c.tell_fault.ensures
