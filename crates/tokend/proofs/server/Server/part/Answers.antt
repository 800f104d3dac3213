use Rattle.std.proofs.Common.{◌-◌, arith}
use Rattle.tokend.proofs.Turning.{goes_nowhere, goes_parted}
use Rattle.tokend.proofs.server.Server.part.Goals as goal

pub returns-then-self-eq0-clause-goes : goal.returns-then-self-eq0-clause-goes
returns-then-self-eq0-clause-goes c = λ log faults. goes_nowhere _

pub returns-clause-goes : goal.returns-clause-goes
returns-clause-goes c = λ log faults.
    goes_parted c.args.self.now c.draw.new.generator (c.args.self.now.left - 1) log faults
    c.draw.ensures.after
    (omega (arith, c.if-self-eq0.false))
