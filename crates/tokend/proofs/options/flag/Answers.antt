use Rattle.std.proofs.Common.{rules}
use Rattle.clap.specs.Words.{found_of}
use Rattle.tokend.proofs.TaskOptions.{flag_absent, flag_given}
use Rattle.tokend.proofs.options.flag.Goals as goal

pub returns-in-Some : goal.returns-in-Some
returns-in-Some c = flag_given (found_of c.args.matches.now) c.args.id.now c.in-Some.text.now
    c.eq.result (search rules) (search rules)

pub returns-in-None : goal.returns-in-None
returns-in-None c = flag_absent (found_of c.args.matches.now) c.args.id.now (search rules)
