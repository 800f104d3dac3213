use Rattle.std.proofs.lemmas.Result.{on_ok_weaker}
use Rattle.tk_listing.proofs.Writing.{keeping_written}
use Rattle.tk_listing.proofs.fields.put_keeping.Goals as goal

pub returns : goal.returns
returns c = on_ok_weaker c.put_kept.result
    (λ e. keeping_written c.args.kind.now c.args.digest.now c.args.writer.now c.put_plain.new.writer
    c.put_kept.new.writer c.in_ok-put_plain.ensures e) c.put_kept.ensures
