use Rattle.std.proofs.Common.{◌≡◌, Bool, true, false, cond, Option, Some, IsSome, sym}
use Rattle.std.proofs.Common.{subst, arith}
use Rattle.std.proofs.lemmas.Grind.{common_steps}
use Rattle.tk_handle.specs.declared.dot.Dot.{Dot}
use Rattle.tk_family.specs.declared.row.Row.{Row}
use Rattle.tk_family.specs.Dots.{dot_eq}
use Rattle.tk_family.specs.Rows.{Rows, table}
use Rattle.tk_family.specs.Writes.{or_blank}
use Rattle.tk_family.proofs.Columns.{Alike-blank, Alike-same, Alike-then, NothingSeen-alike}
use Rattle.tk_family.proofs.Columns.{blank_there, present-blank}
use Rattle.tk_family.proofs.put.make_room.Goals as goal

-- a row that was there before is still there
some_either : (b : Bool) (row : Option Row) → IsSome row → IsSome (cond b (or_blank row) row)
some_either true row is = blank_there row
some_either false row is = is

-- a row that was there is there once the rows have a blank one at a dot
stays_there : (T N : Rows) (at p : Dot)
    → ((q : Dot) → N q ≡ cond (dot_eq at q) (or_blank (T q)) (T q)) → IsSome (T p) → IsSome (N p)
stays_there T N at p h is =
    subst (λ (row : Option Row). IsSome row) (sym (h p)) (some_either (dot_eq at p) (T p) is)

-- the dot that a link names has the row that was made
named_there : (N : Rows) (above : Dot) (found named : Option Dot) → found ≡ named
    → found ≡ Some above → IsSome (N above) → (p : Dot) → named ≡ Some p → IsSome (N p)
named_there N above found named same is here p e =
    let at : above ≡ p = cc in
    subst (λ (q : Dot). IsSome (N q)) at here

pub returns-in_err-add_row-clause-same : goal.returns-in_err-add_row-clause-same
returns-in_err-add_row-clause-same c = NothingSeen-alike _ _ c.requires
    (Alike-same (table c.args.rows.now) (table c.add_row.new.rows) c.in_err-add_row.ensures.err)

pub returns-in_err-add_row-2-clause-same : goal.returns-in_err-add_row-2-clause-same
returns-in_err-add_row-2-clause-same c = NothingSeen-alike _ _ c.requires
    (Alike-then (table c.args.rows.now) (table c.add_row.new.rows)
    (table c.add_row-in-Some.new.rows)
    (Alike-blank (table c.args.rows.now) (table c.add_row.new.rows) c.args.dot
    c.in_ok-add_row.ensures.ok)
    (Alike-same (table c.add_row.new.rows) (table c.add_row-in-Some.new.rows)
    c.in_err-add_row-2.ensures.err))

pub returns-in_ok-add_row-2-clause-same : goal.returns-in_ok-add_row-2-clause-same
returns-in_ok-add_row-2-clause-same c = NothingSeen-alike _ _ c.requires
    (Alike-then (table c.args.rows.now) (table c.add_row.new.rows)
    (table c.add_row-in-Some.new.rows)
    (Alike-blank (table c.args.rows.now) (table c.add_row.new.rows) c.args.dot
    c.in_ok-add_row.ensures.ok)
    (Alike-blank (table c.add_row.new.rows) (table c.add_row-in-Some.new.rows) c.in-Some.above
    c.in_ok-add_row-2.ensures.ok))

pub returns-in_default-clause-same : goal.returns-in_default-clause-same
returns-in_default-clause-same c = NothingSeen-alike _ _ c.requires
    (Alike-blank (table c.args.rows.now) (table c.add_row.new.rows) c.args.dot
    c.in_ok-add_row.ensures.ok)

pub returns-in_ok-add_row-2-clause-own : goal.returns-in_ok-add_row-2-clause-own
returns-in_ok-add_row-2-clause-own c = stays_there (table c.add_row.new.rows)
    (table c.add_row-in-Some.new.rows) c.in-Some.above c.args.dot c.in_ok-add_row-2.ensures.ok
    (present-blank (table c.args.rows.now) (table c.add_row.new.rows) c.args.dot
    c.in_ok-add_row.ensures.ok)

pub returns-in_ok-add_row-2-clause-named : goal.returns-in_ok-add_row-2-clause-named
returns-in_ok-add_row-2-clause-named c =
    named_there (table c.add_row-in-Some.new.rows) c.in-Some.above _ _ c.named.ensures c.in-Some.is
    (present-blank (table c.add_row.new.rows) (table c.add_row-in-Some.new.rows) c.in-Some.above
    c.in_ok-add_row-2.ensures.ok)

pub returns-in_default-clause-own : goal.returns-in_default-clause-own
returns-in_default-clause-own c = present-blank (table c.args.rows.now) (table c.add_row.new.rows)
    c.args.dot c.in_ok-add_row.ensures.ok

pub returns-in_default-clause-named : goal.returns-in_default-clause-named
returns-in_default-clause-named c = grind (arith, common_steps)
