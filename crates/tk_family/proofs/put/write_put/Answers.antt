use Rattle.std.proofs.Common.{◌+◌, ◌≤◌, ap, sym, ◌∙◌, subst, List, is_some, arith}
use Rattle.std.specs.FinMap as map
use Rattle.tk_handle.specs.declared.dot.Dot.{Dot}
use Rattle.tk_family.specs.Rows.{Rows, table, count_in}
use Rattle.tk_family.specs.Puts.{Puts}
use Rattle.tk_family.specs.Writes.{bads}
use Rattle.tk_family.proofs.Assembly.{Puts-whole, Puts-waits, fresh_codes}
use Rattle.tk_family.proofs.Recounting.{raise-fits}
use Rattle.tk_family.proofs.put.write_put.Goals as goal

pub raise-requires : goal.raise-requires
raise-requires c =
    let T : Rows = table c.args.rows.now in
    let M : Rows = table c.hang_counted.new.rows in
    let got = c.requires.whole (ap is_some c.in-Some.is) in
    let fits : count_in (M c.in-Some.code) + bads M c.args.dots.now
    ≤ map.len c.hang_counted.new.rows =
    raise-fits c.hang_counted.new.rows c.in-Some.code c.args.dots.now c.hang_counted.ensures.counted
    got.distinct
    (fresh_codes T M c.args.dot c.args.link.now c.args.dots.now c.requires.forest c.requires.free
    c.hang_counted.ensures.hung.code got) in
    omega (arith, fits, c.countable.ensures)

pub returns-in-Some-clause-puts : goal.returns-in-Some-clause-puts
returns-in-Some-clause-puts c =
    Puts-whole (table c.args.rows.now) (table c.hang_counted.new.rows) (table c.raise.new.rows)
    c.args.dot c.args.link.now c.in-Some.code c.args.dots.now c.requires.forest c.requires.free
    c.hang_counted.ensures.hung c.hang_counted.ensures.counted
    (sym c.requires.code ∙ c.in-Some.is) (c.requires.whole (ap is_some c.in-Some.is))
    c.raise.ensures.rows

pub returns-in_default-clause-puts : goal.returns-in_default-clause-puts
returns-in_default-clause-puts c =
    let T : Rows = table c.args.rows.now in
    let M : Rows = table c.hang_counted.new.rows in
    subst (λ (ys : List Dot). Puts T M c.args.dot c.args.link.now ys)
    (sym (c.requires.waits c.in_default.is))
    (Puts-waits T M c.args.dot c.args.link.now c.requires.forest c.requires.free
    c.hang_counted.ensures.hung c.hang_counted.ensures.counted
    (sym c.requires.code ∙ c.in_default.is))
