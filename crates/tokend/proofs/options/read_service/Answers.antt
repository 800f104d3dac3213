use Rattle.std.proofs.Common.{rules}
use Rattle.clap.specs.Words.{found_of, rows_of}
use Rattle.tokend.proofs.Tasks.{without_region, without_settings}
use Rattle.tokend.proofs.MissingOptions.{without_choices, without_connections, without_notices}
use Rattle.tokend.proofs.MissingOptions.{without_pushes}
use Rattle.tokend.proofs.options.read_service.Goals as goal

pub returns-clause-service : goal.returns-clause-service
returns-clause-service c = record {
  numbers = search rules;
  region = search rules;
  at = search rules;
  connections = search rules;
  limits = search rules;
  files = search rules;
  pushes = search rules;
  choices = search rules;
  notices = search rules;
}

pub returns-in_default-clause-none : goal.returns-in_default-clause-none
returns-in_default-clause-none c =
    without_settings (rows_of (found_of c.args.matches.now)) c.in_default.ensures.none

pub returns-in_default-number-clause-none : goal.returns-in_default-number-clause-none
returns-in_default-number-clause-none c =
    without_region (rows_of (found_of c.args.matches.now)) c.in_default-number.ensures.none

pub returns-in_default-number-2-clause-none : goal.returns-in_default-number-2-clause-none
returns-in_default-number-2-clause-none c =
    without_connections (rows_of (found_of c.args.matches.now)) c.in_default-number-2.ensures.none

pub returns-in_default-3-clause-none : goal.returns-in_default-3-clause-none
returns-in_default-3-clause-none c =
    without_pushes (rows_of (found_of c.args.matches.now)) (search rules)

pub returns-in_default-read_choices-clause-none : goal.returns-in_default-read_choices-clause-none
returns-in_default-read_choices-clause-none c =
    without_choices (rows_of (found_of c.args.matches.now)) c.in_default-read_choices.ensures.none

pub returns-in_default-4-clause-none : goal.returns-in_default-4-clause-none
returns-in_default-4-clause-none c =
    without_notices (rows_of (found_of c.args.matches.now)) (search rules)
