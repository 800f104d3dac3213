use Rattle.std.proofs.Common.{sym, ap, ◌∙◌, ◌≡◌}
use Rattle.std.proofs.Common.{arith}
use Rattle.std.specs.FinMap as map
use Rattle.std.specs.Option.{option_copied}
use Rattle.tk_family.proofs.Writing.{added, longer}
use Rattle.tk_family.proofs.write.add_row.Goals as goal
use Rattle.tk_handle.proofs.TestLaws.{either_way, none_of, on_ok}

pub returns-clause-ok : goal.returns-clause-ok
returns-clause-ok c = on_ok c.put.result c.put.ensures.ok (λ is.
    added c.args.rows.now c.put.new.self c.args.at c.pack.result is
    (sym c.get.ensures
    ∙ ap option_copied (none_of c.get.result (sym c.is_some.ensures ∙ c.if-is_some.false)))
    (c.pack.ensures ∙ c.new.ensures))

pub returns-clause-len : goal.returns-clause-len
returns-clause-len c = either_way c.put.result c.put.ensures.ok c.put.ensures.err
    (λ is. longer c.args.rows.now c.put.new.self c.args.at c.pack.result is) (λ is.
    let same : map.len c.put.new.self ≡ map.len c.args.rows.now = ap map.len is in
    omega arith)
