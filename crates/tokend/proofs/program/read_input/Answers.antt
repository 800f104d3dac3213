use Rattle.std.proofs.Common.{ap, length, arith}
use Rattle.tokend.proofs.Runs.{read_fault}
use Rattle.tokend.proofs.program.read_input.Goals as goal

pub returns-in-Ok-clause-fault : goal.returns-in-Ok-clause-fault
returns-in-Ok-clause-fault g c =
    let same = ap length c.as_slice.ensures.value in
    read_fault c.args.longest _ c.in-Ok.script.items c.read_events.result
    (omega (arith, same, c.as_slice.ensures.len, c.in-Ok.ensures.short)) c.in-Ok.ensures.whole
    (rw c.as_slice.ensures.value at c.read_events.ensures.fault)
