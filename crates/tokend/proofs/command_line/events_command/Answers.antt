use Rattle.std.proofs.Common.{◌≡◌, codes, true, rules}
use Rattle.clap.specs.Simple.{on_top}
use Rattle.clap.specs.Words.{App, app_of, new_app, with_subcommand}
use Rattle.tokend.specs.CommandLine.{loopback_app, script_app}
use Rattle.tokend.proofs.Commands.{added, if_ok}
use Rattle.tokend.proofs.command_line.events_command.Goals as goal

pub returns-in-Ok : goal.returns-in-Ok
returns-in-Ok c =
    let start : App = on_top (λ s. record s { has_version = true; subcommand_required = true })
    (new_app (codes "tokend")) in
    let program = c.subcommand_required-program.result in
    let first : app_of c.in-Ok.program ≡ with_subcommand start script_app.top =
    added program c.in-Ok.program c.script_command.result start script_app c.in-Ok.ensures
    c.script_command.ensures.shape c.script_command.ensures.local (search rules) in
    if_ok c.with_made-in-Ok.result
    (λ command adds.
    added c.in-Ok.program command c.loopback_command.result (with_subcommand start script_app.top)
    loopback_app adds
    c.loopback_command.ensures.shape c.loopback_command.ensures.local first)
    c.with_made-in-Ok.ensures
