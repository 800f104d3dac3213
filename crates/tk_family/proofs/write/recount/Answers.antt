use Rattle.std.proofs.Common.{◌≡◌, ℕ, ◌+◌, ◌-◌, ◌≤◌, Bool, ap, cond, sym, ◌∙◌, subst, arith, refl}
use Rattle.std.proofs.Math.Bool.{beq}
use Rattle.std.specs.FinMap as map
use Rattle.tk_handle.specs.declared.dot.Dot.{Dot}
use Rattle.tk_family.specs.Dots.{dot_eq}
use Rattle.tk_family.specs.Rows.{table, count_in, bad_in}
use Rattle.tk_family.specs.Writes.{with_count}
use Rattle.tk_family.proofs.Recounting.{recount-fits, recount-none, recount-same}
use Rattle.tk_family.proofs.Putting.{AlikeButCount-count, IsCounted-recount}
use Rattle.tk_family.proofs.HungColumns.{row_at}
use Rattle.tk_family.proofs.write.recount.Goals as goal

pub overflow_add-count : goal.overflow_add-count
overflow_add-count c =
    let T = table c.args.rows.now in
    let fits : (count_in (T c.in-Some.code) - cond c.args.was 1 0) + cond (bad_in (T c.args.at)) 1 0
    ≤ map.len c.args.rows.now =
    recount-fits c.args.rows.now c.args.at c.in-Some.code c.args.was c.requires.counted
    (sym c.code_at.ensures ∙ c.in-Some.is) in
    rw (c.count_at.ensures, c.one_if.ensures, c.one_if-in-Some.ensures, c.is_bad-bad.ensures)
    (omega (arith, fits, c.countable.ensures))

pub returns-in-Some-clause-counted : goal.returns-in-Some-clause-counted
returns-in-Some-clause-counted c =
    let T = table c.args.rows.now in
    let N = table c.set_count.new.rows in
    let code : Dot = c.in-Some.code in
    let said = sym c.code_at.ensures ∙ c.in-Some.is in
    let same : (c.count_at.result - c.one_if.result) + c.one_if-in-Some.result
    ≡ (count_in (T code) - cond c.args.was 1 0) + cond (bad_in (T c.args.at)) 1 0 =
    rw (c.count_at.ensures, c.one_if.ensures, c.one_if-in-Some.ensures, c.is_bad-bad.ensures)
    refl in
    IsCounted-recount T N c.args.at code c.args.was c.requires.counted said
    (row_at (T code) (c.requires.coded code said))
    (subst (λ (n : ℕ). (q : Dot) → N q ≡ cond (dot_eq code q) (with_count (T q) n) (T q)) same
    c.set_count.ensures.rows)

pub returns-in_default-clause-counted : goal.returns-in_default-clause-counted
returns-in_default-clause-counted c = recount-none (table c.args.rows.now) c.args.at c.args.was
    c.requires.counted (sym c.code_at.ensures ∙ c.in_default.is)

pub returns-then-bad-was-clause-counted : goal.returns-then-bad-was-clause-counted
returns-then-bad-was-clause-counted c =
    recount-same (table c.args.rows.now) c.args.at c.args.was c.requires.counted
    (ap (λ (b : Bool). beq b c.args.was) (sym c.is_bad-bad.ensures) ∙ c.if-bad-was.true)

pub returns-in-Some-clause-alike : goal.returns-in-Some-clause-alike
returns-in-Some-clause-alike c =
    AlikeButCount-count (table c.args.rows.now) (table c.set_count.new.rows) c.in-Some.code _
    c.set_count.ensures.rows
