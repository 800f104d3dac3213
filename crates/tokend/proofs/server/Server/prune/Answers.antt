use Rattle.std.proofs.Common.{rules}
use Rattle.tokend.proofs.BehindTurns.{goes_pruned}
use Rattle.tokend.proofs.server.Server.prune.Goals as goal

pub returns-clause-sliced : goal.returns-clause-sliced
returns-clause-sliced c = search rules

pub returns-clause-goes : goal.returns-clause-goes
returns-clause-goes c =
    λ log faults. goes_pruned c.args.self.now c.args.millis _ (returns-clause-sliced c) log faults
