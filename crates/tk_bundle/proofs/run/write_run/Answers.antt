use Rattle.std.proofs.Common.{◌∙◌}
use Rattle.std.proofs.lemmas.Result.{on_ok_weaker}
use Rattle.tk_bundle.proofs.RunLaws.{run_written}
use Rattle.tk_bundle.proofs.run.write_run.Goals as goal

pub returns : goal.returns
returns c = on_ok_weaker c.put_u64.result
    (λ e. run_written c.args.run.now.first c.args.run.now.last c.args.writer.now c.put_u16.new.self
    c.write.new.writer c.put_u8.new.self c.put_u64.new.self
    (λ same. c.if-serial-run.false (c.serial.ensures.value ∙ same)) c.in_ok-put_u16.ensures.ok
    c.in_ok-write.ensures c.in_ok-put_u8.ensures.ok e) c.put_u64.ensures.ok
