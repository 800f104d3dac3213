use Rattle.std.proofs.Common.{sym, ap, ◌∙◌, Some, Option}
use Rattle.tk_family.specs.declared.row.Row.{Row}
use Rattle.tk_family.specs.Rows.{table}
use Rattle.tk_family.specs.Writes.{with_redeemer}
use Rattle.tk_family.proofs.Writing.{changed}
use Rattle.tk_family.proofs.write.set_redeemer.Goals as goal

pub returns-in-Some-clause-rows : goal.returns-in-Some-clause-rows
returns-in-Some-clause-rows c = changed (table c.args.rows.now) (table c.put_row.new.rows) c.args.at
    c.unpack.result c.redeemed_by-changed.result (λ (o : Option Row). with_redeemer o c.args.dot)
    (sym c.in-Some.ensures ∙ ap (λ (r : Row). Some r) (sym c.unpack.ensures))
    c.redeemed_by-changed.ensures c.put_row.ensures.rows
