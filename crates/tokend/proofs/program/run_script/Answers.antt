use Rattle.tokend.specs.ScriptRun.{in_world}
use Rattle.tokend.proofs.Runs.{script_begun, script_printed}
use Rattle.tokend.proofs.program.run_script.Goals as goal

pub returns-in-Ok-run-clause-done : goal.returns-in-Ok-run-clause-done
returns-in-Ok-run-clause-done g c =
    let acts =
    rw (c.new-world.ensures.empty, c.as_slice.ensures.value) at c.in-Ok-run.ensures.acts in
    let ran =
    rw c.as_slice.ensures.value at c.in-Ok-run.ensures.run _ _ c.new-world.ensures.stands in
    script_printed (in_world c.args.settings) _ c.in-Ok.events.items c.in-Ok-run.outcomes.items _ _
    c.print_lines.result c.in-Ok.ensures.given (c.run.new.self, acts, ran.0)
    (rw (c.as_slice-in-Ok-run.ensures.value, c.as_slice-in-Ok-run-2.ensures.value) at
    c.print_lines.ensures.done)

pub returns-in-Ok-run-clause-left : goal.returns-in-Ok-run-clause-left
returns-in-Ok-run-clause-left g c =
    let acts =
    rw (c.new-world.ensures.empty, c.as_slice.ensures.value) at c.in-Ok-run.ensures.acts in
    let ran =
    rw c.as_slice.ensures.value at c.in-Ok-run.ensures.run _ _ c.new-world.ensures.stands in
    script_begun (in_world c.args.settings) _ c.in-Ok.events.items c.in-Ok-run.outcomes.items _ _
    c.print_lines.result c.in-Ok.ensures.given (c.run.new.self, acts, ran.0)
    (rw (c.as_slice-in-Ok-run.ensures.value, c.as_slice-in-Ok-run-2.ensures.value) at
    c.print_lines.ensures.fault)
