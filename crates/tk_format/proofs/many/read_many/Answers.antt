use Rattle.std.proofs.lemmas.Result.{err_from_is_err_and}
use Rattle.tk_format.specs.Format.{read_many}
use Rattle.tk_format.proofs.Several.{many_done, many_err_by, many_more}
use Rattle.tk_format.proofs.many.read_many.Goals as goal

pub returns-in_err-item : goal.returns-in_err-item
returns-in_err-item g c =
    let p = err_from_is_err_and c.from_residual.result c.from_residual.ensures.1 in
    rw (p.1, p.2)
    (many_err_by g.T.FromBytes.value_at c.in_err-item.field-0.0 c.loop.items.items c.args.count
    c.loop.counter c.args.reader.now c.loop.reader c.read_from.new.reader c.read_from.new.reader
    c.loop-test.true c.in_err-item.ensures c.loop.invariant)

pub loop-preserved : goal.loop-preserved
loop-preserved g c =
    rw c.in_ok-push.ensures.items
    (many_more g.T.FromBytes.value_at c.loop.items.items c.args.count c.loop.counter c.loop.reader
    c.in_ok-item.item c.read_from.new.reader
    (read_many g.T.FromBytes.value_at c.args.count c.args.reader.now) c.loop-test.true
    c.in_ok-item.ensures c.loop.invariant)

pub returns : goal.returns
returns g c = many_done g.T.FromBytes.value_at c.loop.items.items c.args.count c.loop.counter
    c.loop.reader (read_many g.T.FromBytes.value_at c.args.count c.args.reader.now)
    c.loop-test.false c.loop.invariant
