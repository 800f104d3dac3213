use Rattle.std.proofs.Common.{sym, ◌∙◌, refl}
use Rattle.tk_family.specs.Rows.{table}
use Rattle.tk_family.proofs.Columns.{NothingSeen-alike, Alike-dropped, Alike-same}
use Rattle.tk_family.proofs.take.drop_blank.Goals as goal

pub returns-then-is_blank_at-clause-same : goal.returns-then-is_blank_at-clause-same
returns-then-is_blank_at-clause-same c = NothingSeen-alike _ _ c.requires
    (Alike-dropped (table c.args.rows.now) (table c.drop_row.new.rows) c.args.at
    (sym c.is_blank_at.ensures ∙ c.if-is_blank_at.true) c.drop_row.ensures.rows)

pub returns-else-is_blank_at-clause-same : goal.returns-else-is_blank_at-clause-same
returns-else-is_blank_at-clause-same c = NothingSeen-alike _ _ c.requires
    (Alike-same (table c.args.rows.now) (table c.args.rows.now) (λ q. refl))
