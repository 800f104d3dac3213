use Rattle.tokend.proofs.FactsLaws.{all_printed, fault_left, fault_of_sources}
use Rattle.tokend.proofs.facts.print_facts.Goals as goal

pub returns-in-Ok-Ok-clause-done : goal.returns-in-Ok-Ok-clause-done
returns-in-Ok-Ok-clause-done g c =
    all_printed c.args.sources.now _ c.print_sources-printed.result c.in-Ok-Ok.cut _ _ _
    c.in-Ok-Ok.is-0 c.print_sources-printed.ensures c.flush-flushed.ensures.bytes c.tell_cut.ensures

pub returns-in-Err-Ok-clause-fault : goal.returns-in-Err-Ok-clause-fault
returns-in-Err-Ok-clause-fault g c =
    fault_of_sources c.args.sources.now _ c.print_sources-printed.result c.in-Err-Ok.fault _ _
    c.in-Err-Ok.is-0 c.print_sources-printed.ensures

pub returns-in-Err-Ok-clause-left : goal.returns-in-Err-Ok-clause-left
returns-in-Err-Ok-clause-left g c =
    fault_left c.args.sources.now _ c.print_sources-printed.result c.in-Err-Ok.fault _ _ _
    c.in-Err-Ok.is-0 c.print_sources-printed.ensures c.flush-flushed.ensures.bytes

pub returns-in_default-Err-clause-left : goal.returns-in_default-Err-clause-left
returns-in_default-Err-clause-left g c = (
  c.print_sources-printed.result,
  _,
  c.print_sources-printed.ensures,
  c.flush-flushed.ensures.bytes,
  tt,
)
