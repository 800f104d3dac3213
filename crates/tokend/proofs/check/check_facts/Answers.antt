use Rattle.tokend.proofs.CheckLaws.{check_begun, check_left, checked}
use Rattle.tokend.proofs.check.check_facts.Goals as goal

pub returns-in-Err-clause-left : goal.returns-in-Err-clause-left
returns-in-Err-clause-left g c =
    check_left c.args.check.now (g.I.Read.remaining c.args.input.now) c.in-Err.fault
    (g.O.Write.contents c.args.output.now) c.in-Err.ensures.fault

pub returns-in-Ok-print_count-clause-done : goal.returns-in-Ok-print_count-clause-done
returns-in-Ok-print_count-clause-done g c =
    checked c.args.check.now (g.I.Read.remaining c.args.input.now) _ _ c.in-Ok.loaded.facts
    c.in-Ok.loaded.cut c.in-Ok.ensures.loaded c.in-Ok-print_count.ensures c.tell_cut.ensures

pub returns-in-Err-print_count-clause-left : goal.returns-in-Err-print_count-clause-left
returns-in-Err-print_count-clause-left g c =
    check_begun c.args.check.now (g.I.Read.remaining c.args.input.now) _ _ c.in-Ok.loaded.facts
    c.in-Ok.loaded.cut c.in-Ok.ensures.loaded c.in-Err-print_count.ensures
