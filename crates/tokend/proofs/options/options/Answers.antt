use Rattle.std.proofs.Common.{rules, map}
use Rattle.clap.specs.Words.{app_of}
use Rattle.tokend.proofs.TaskOptions.{asked_by, fails_by, found_by, refused_by, unasked_by}
use Rattle.tokend.proofs.options.options.Goals as goal

pub returns-in-Err-clause-refused : goal.returns-in-Err-clause-refused
returns-in-Err-clause-refused g c =
    refused_by (map g.S.AsStr.text c.args.words.now) c.try_get_matches_from_mut.result
    c.in-Err.error (search rules)
    (fails_by (app_of c.in-Ok.command) _ _ c.in-Ok.ensures c.try_get_matches_from_mut.ensures.kinds)

pub returns-in-Ok-try_get_matches_from_mut-clause-task
    : goal.returns-in-Ok-try_get_matches_from_mut-clause-task
returns-in-Ok-try_get_matches_from_mut-clause-task g c =
    let fails = fails_by (app_of c.in-Ok.command) (map g.S.AsStr.text c.args.words.now)
    c.try_get_matches_from_mut.result c.in-Ok.ensures c.try_get_matches_from_mut.ensures.kinds in
    let same = found_by (app_of c.in-Ok.command) (map g.S.AsStr.text c.args.words.now)
    c.in-Ok-try_get_matches_from_mut.matches c.in-Ok.ensures
    c.in-Ok-try_get_matches_from_mut.ensures.ok.2 in
    asked_by (map g.S.AsStr.text c.args.words.now) c.in-Ok-try_get_matches_from_mut.matches
    c.read_task-task.result (search rules) same c.read_task-task.ensures.task

pub returns-in-Ok-try_get_matches_from_mut-clause-refused
    : goal.returns-in-Ok-try_get_matches_from_mut-clause-refused
returns-in-Ok-try_get_matches_from_mut-clause-refused g c =
    let fails = fails_by (app_of c.in-Ok.command) (map g.S.AsStr.text c.args.words.now)
    c.try_get_matches_from_mut.result c.in-Ok.ensures c.try_get_matches_from_mut.ensures.kinds in
    let same = found_by (app_of c.in-Ok.command) (map g.S.AsStr.text c.args.words.now)
    c.in-Ok-try_get_matches_from_mut.matches c.in-Ok.ensures
    c.in-Ok-try_get_matches_from_mut.ensures.ok.2 in
    unasked_by (map g.S.AsStr.text c.args.words.now) c.in-Ok-try_get_matches_from_mut.matches
    c.read_task-task.result (search rules) same c.read_task-task.ensures.refused
