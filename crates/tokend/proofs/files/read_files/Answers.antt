use Rattle.std.proofs.Common.{rules}
use Rattle.clap.specs.Words.{found_of, rows_of}
use Rattle.tokend.proofs.MissingOptions.{unlogged_parts, unlogged_taken}
use Rattle.tokend.proofs.files.read_files.Goals.{then-log_taken, else-log_taken}
use Rattle.tokend.proofs.files.read_files.Goals as goal

pub returns-then-is_none-clause-none : goal.returns-then-is_none-clause-none
returns-then-is_none-clause-none c = elim c.if-log_taken.branch [
  | then-log_taken w ↦ unlogged_taken (rows_of (found_of c.args.matches.now))
      c.flag-log_taken.result c.in_ok-log.log c.flag-log_taken.ensures (search rules) (search rules)
      (search rules)
  | else-log_taken w ↦ unlogged_parts (rows_of (found_of c.args.matches.now))
      c.number-log_part.result c.in_ok-log.log c.number-log_part.ensures.value (search rules)
      (search rules) (search rules)
]

pub returns-clause-files : goal.returns-clause-files
returns-clause-files c = record {
  seed = search rules;
  log = search rules;
  load = search rules;
  prune = search rules;
  unpruned = search rules;
  log_taken = search rules;
  logged = search rules;
  log_part = search rules;
  unparted = search rules;
  parted = search rules;
}
