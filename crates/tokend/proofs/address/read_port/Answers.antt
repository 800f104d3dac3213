use Rattle.clap.specs.Words.{found_of, rows_of}
use Rattle.tokend.proofs.TaskOptions.{no_port}
use Rattle.tokend.proofs.address.read_port.Goals as goal

pub returns-in-None-clause-none : goal.returns-in-None-clause-none
returns-in-None-clause-none c =
    no_port (rows_of (found_of c.args.matches.now)) c.requires c.in-None.ensures.none
