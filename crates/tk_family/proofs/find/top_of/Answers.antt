use Rattle.std.proofs.Common.{sym, ◌∙◌}
use Rattle.std.proofs.lemmas.Bool.{true≢false}
use Rattle.tk_family.specs.Rows.{table}
use Rattle.tk_family.proofs.Growth.{IsForest-dead, IsForest-tomb}
use Rattle.tk_family.proofs.Marking.{top-broken}
use Rattle.tk_family.proofs.find.top_of.Goals as goal

pub returns-in-Some-None-clause-top : goal.returns-in-Some-None-clause-top
returns-in-Some-None-clause-top c = top-broken (table c.args.rows.now) c.args.dot
    c.in-Some-None.field-0-0 c.requires (sym c.seen_at.ensures.link ∙ c.in-Some-None.is-0)
    (sym c.seen_at.ensures.code ∙ c.in-Some-None.is-1)

pub returns-then-dead_at-clause-top : goal.returns-then-dead_at-clause-top
returns-then-dead_at-clause-top c = (
  c.requires.under c.args.dot c.in-Some-Some.code
      (sym c.seen_at.ensures.code ∙ c.in-Some-Some.is-1),
  IsForest-dead (table c.args.rows.now) c.requires c.in-Some-Some.code
      (sym c.dead_at.ensures ∙ c.if-dead_at.true),
)

pub returns-else-dead_at-clause-top : goal.returns-else-dead_at-clause-top
returns-else-dead_at-clause-top c = (
  c.requires.under c.args.dot c.in-Some-Some.code
      (sym c.seen_at.ensures.code ∙ c.in-Some-Some.is-1),
  λ dead. true≢false
      (sym (IsForest-tomb (table c.args.rows.now) c.requires c.in-Some-Some.code dead)
      ∙ (sym c.dead_at.ensures ∙ c.if-dead_at.false)),
)
