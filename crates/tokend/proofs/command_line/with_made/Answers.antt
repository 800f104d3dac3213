use Rattle.tokend.proofs.Commands.{made_added}
use Rattle.tokend.proofs.command_line.with_made.Goals as goal

pub returns-in-Ok : goal.returns-in-Ok
returns-in-Ok c = made_added c.args.command c.in-Ok.subcommand c.args.made c.subcommand.result
    c.in-Ok.is c.subcommand.ensures
