use Rattle.std.proofs.Common.{sym, ◌∙◌, arith}
use Rattle.tk_edge.proofs.OpenReplyLaws.{none_to}
use Rattle.tk_edge.proofs.open_reply.closing_line_at.Goals as goal

pub loop-at-init : goal.loop-at-init
loop-at-init c = λ k less. absurd (omega (arith, less))

pub returns-then-is_closing_at-clause-some : goal.returns-then-is_closing_at-clause-some
returns-then-is_closing_at-clause-some c = record {
  here = sym c.is_closing_at.ensures.value ∙ c.if-is_closing_at.true;
  before = c.loop-at.invariant;
}

pub loop-at-preserved : goal.loop-at-preserved
loop-at-preserved c =
    none_to c.args.reply.now c.loop-at.at c.loop-at.invariant
    (sym c.is_closing_at.ensures.value ∙ c.if-is_closing_at.false)

pub returns-clause-none : goal.returns-clause-none
returns-clause-none c = λ k less.
    c.loop-at.invariant k (omega (arith, less, c.loop-at-test.false, c.loop-at.auto.at-end))
