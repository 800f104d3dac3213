use Rattle.clap.specs.Words.{found_of, rows_of}
use Rattle.tokend.proofs.Tasks.{without_number}
use Rattle.tokend.proofs.sources.read_facts.Goals as goal

pub returns-in-None-clause-none : goal.returns-in-None-clause-none
returns-in-None-clause-none c = without_number (rows_of (found_of c.args.matches.now)) c.flag.result
    c.flag.ensures c.if-not-flag.false c.in-None.ensures.none
