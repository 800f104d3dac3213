use Rattle.std.proofs.Common.{arith}
use Rattle.tk_region.proofs.TakeLaws.{counted_new, counted_held}
use Rattle.tk_region.proofs.take.take_item.Goals as goal

pub returns-in-Ok-New-clause-ok : goal.returns-in-Ok-New-clause-ok
returns-in-Ok-New-clause-ok c =
    let e = rw c.in-Ok-New.field-0-is at c.in-Ok-New.ensures in
    (e.1, counted_new c.args.ledger.now c.put_item.new.ledger c.args.item e.0 e.1, omega arith)

pub returns-in-Ok-Held-clause-ok : goal.returns-in-Ok-Held-clause-ok
returns-in-Ok-Held-clause-ok c =
    let e = rw c.in-Ok-Held.field-0-is at c.in-Ok-Held.ensures in
    let same = counted_held c.args.ledger.now c.put_item.new.ledger c.args.item e.0 e.1 in
    (e.1, omega (arith, same), omega arith)
