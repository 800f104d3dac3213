use Rattle.std.proofs.Common.{codes, refl, rules}
use Rattle.clap.specs.Words.{found_of, rows_of, subcommand_rows_of}
use Rattle.tokend.proofs.Tasks.{is_facts, is_no_check, is_no_service, no_loopback}
use Rattle.tokend.proofs.TaskOptions.{differs}
use Rattle.tokend.proofs.Tasks.{no_script}
use Rattle.tokend.proofs.TaskOptions.{no_subcommand}
use Rattle.tokend.proofs.options.read_matches.Goals as goal

pub returns-in-None-clause-none : goal.returns-in-None-clause-none
returns-in-None-clause-none c = no_script (subcommand_rows_of c.args.matches.now) _ (search rules)
    (search rules) c.in-None.ensures.none

pub returns-in-None-read_numbers-clause-none : goal.returns-in-None-read_numbers-clause-none
returns-in-None-read_numbers-clause-none c =
    no_loopback (subcommand_rows_of c.args.matches.now) _ (search rules)
    (search rules) c.in-None-read_numbers.ensures.none

pub returns-then-eq-3-clause-none : goal.returns-then-eq-3-clause-none
returns-then-eq-3-clause-none c =
    is_no_service _ _ c.read_serve.result (search rules) (search rules) c.read_serve.ensures.none

pub returns-then-eq-4-clause-task : goal.returns-then-eq-4-clause-task
returns-then-eq-4-clause-task c =
    is_facts (subcommand_rows_of c.args.matches.now) (rows_of (found_of c.in-Some.values.now))
    c.read_facts.result (search rules) (search rules) c.read_facts.ensures.task

pub returns-then-eq-4-clause-none : goal.returns-then-eq-4-clause-none
returns-then-eq-4-clause-none c =
    is_no_check (subcommand_rows_of c.args.matches.now) (rows_of (found_of c.in-Some.values.now))
    c.read_facts.result (search rules) (search rules) c.read_facts.ensures.none

pub returns-clause-none : goal.returns-clause-none
returns-clause-none c =
    no_subcommand (subcommand_rows_of c.args.matches.now) c.in-Some.name.now (search rules)
    (differs c.in-Some.name.now (codes "script") refl (search rules))
    (differs c.in-Some.name.now (codes "loopback") refl (search rules))
    (differs c.in-Some.name.now (codes "serve") refl (search rules))
    (differs c.in-Some.name.now (codes "facts") refl (search rules))
