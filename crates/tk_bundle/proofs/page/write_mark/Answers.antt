use Rattle.std.proofs.lemmas.Result.{on_ok_weaker}
use Rattle.tk_bundle.specs.ItemLaws.{mark_fits}
use Rattle.tk_bundle.proofs.PageLaws.{mark_written}
use Rattle.tk_bundle.proofs.page.write_mark.Goals as goal

pub returns-in_err-put_u16-clause-fits : goal.returns-in_err-put_u16-clause-fits
returns-in_err-put_u16-clause-fits c = mark_fits c.args.dot c.known.ensures

pub returns-clause-written : goal.returns-clause-written
returns-clause-written c = on_ok_weaker c.write.result
    (λ e. mark_written c.args.dot c.args.writer.now c.put_u16.new.self c.write.new.writer
    c.in_ok-put_u16.ensures.ok e) c.write.ensures

pub returns-clause-fits : goal.returns-clause-fits
returns-clause-fits c = mark_fits c.args.dot c.known.ensures
