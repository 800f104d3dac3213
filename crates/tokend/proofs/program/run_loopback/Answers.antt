use Rattle.tokend.specs.LoopbackRun.{by_loopback}
use Rattle.tokend.proofs.Runs.{script_begun, script_printed}
use Rattle.tokend.proofs.program.run_loopback.Goals as goal

pub returns-in-Ok-run_by_sockets-clause-done : goal.returns-in-Ok-run_by_sockets-clause-done
returns-in-Ok-run_by_sockets-clause-done g c =
    script_printed (by_loopback c.args.settings) _ c.in-Ok.events.items
    c.in-Ok-run_by_sockets.outcomes.items _ _ c.print_lines.result c.in-Ok.ensures.given
    (rw c.as_slice.ensures.value at c.in-Ok-run_by_sockets.ensures.run)
    (rw (
      c.as_slice-in-Ok-run_by_sockets.ensures.value,
      c.as_slice-in-Ok-run_by_sockets-2.ensures.value,
    ) at c.print_lines.ensures.done)

pub returns-in-Ok-run_by_sockets-clause-left : goal.returns-in-Ok-run_by_sockets-clause-left
returns-in-Ok-run_by_sockets-clause-left g c =
    script_begun (by_loopback c.args.settings) _ c.in-Ok.events.items
    c.in-Ok-run_by_sockets.outcomes.items _ _ c.print_lines.result c.in-Ok.ensures.given
    (rw c.as_slice.ensures.value at c.in-Ok-run_by_sockets.ensures.run)
    (rw (
      c.as_slice-in-Ok-run_by_sockets.ensures.value,
      c.as_slice-in-Ok-run_by_sockets-2.ensures.value,
    ) at c.print_lines.ensures.fault)
