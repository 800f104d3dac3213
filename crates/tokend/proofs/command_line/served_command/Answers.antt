use Rattle.tokend.specs.CommandLine.{events_app, serve_app}
use Rattle.tokend.proofs.Commands.{added, if_ok}
use Rattle.tokend.proofs.command_line.served_command.Goals as goal

pub returns-in-Ok : goal.returns-in-Ok
returns-in-Ok c =
    if_ok c.with_made.result
    (λ command adds. added c.in-Ok.events command c.serve_command.result events_app serve_app adds
    c.serve_command.ensures.shape c.serve_command.ensures.local c.in-Ok.ensures) c.with_made.ensures
