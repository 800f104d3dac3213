use Rattle.std.proofs.Common.{sym, ap, ◌∙◌, Some, Option}
use Rattle.tk_family.specs.declared.row.Row.{Row}
use Rattle.tk_family.specs.Rows.{table}
use Rattle.tk_family.specs.Writes.{without_link}
use Rattle.tk_family.proofs.Writing.{changed}
use Rattle.tk_family.proofs.write.set_bare.Goals as goal

pub returns-in-Some-clause-rows : goal.returns-in-Some-clause-rows
returns-in-Some-clause-rows c = changed (table c.args.rows.now) (table c.put_row.new.rows) c.args.at
    c.unpack.result c.without_link-changed.result (λ (o : Option Row). without_link o)
    (sym c.in-Some.ensures ∙ ap (λ (r : Row). Some r) (sym c.unpack.ensures))
    c.without_link-changed.ensures c.put_row.ensures.rows
