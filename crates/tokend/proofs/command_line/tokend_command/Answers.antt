use Rattle.tokend.specs.CommandLine.{served_app, facts_app}
use Rattle.tokend.proofs.Commands.{added, if_ok}
use Rattle.tokend.proofs.command_line.tokend_command.Goals as goal

pub returns-in-Ok : goal.returns-in-Ok
returns-in-Ok c =
    if_ok c.with_made.result
    (λ command adds. added c.in-Ok.served command c.facts_command.result served_app facts_app adds
    c.facts_command.ensures.shape c.facts_command.ensures.local c.in-Ok.ensures) c.with_made.ensures
