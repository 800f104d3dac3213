use Rattle.std.proofs.Common.{◌∙◌, None, arith}
use Rattle.std.proofs.lemmas.Bool.Decides.{nat_tests}
use Rattle.tk_format.proofs.DecimalLaws.{is_decimal_in, no_plus, no_zero, no_nothing, no_text}
use Rattle.tk_format.proofs.DecimalLaws.{parsed}
use Rattle.tk_format.proofs.decimal.digits.Goals as goal
use Rattle.tk_format.proofs.decimal.digits.Goals.{then-first-eq43-via-then-first-eq43}
use Rattle.tk_format.proofs.decimal.digits.Goals.{then-first-eq43-via-else-first-eq43+then-text-gt1}
use Rattle.tk_format.proofs.decimal.digits.Goals.{then-first-eq48, else-first-eq48}

pub returns-in_default : goal.returns-in_default
returns-in_default c = is_decimal_in c.args.text.now None (no_nothing c.args.text.now (omega arith))

pub returns-then-first-eq43 : goal.returns-then-first-eq43
returns-then-first-eq43 c = is_decimal_in c.args.text.now None (elim c.then-first-eq43.branch [
  | then-first-eq43-via-then-first-eq43 w ↦ no_plus c.args.text.now w.if-first-eq43.true
  | then-first-eq43-via-else-first-eq43+then-text-gt1 w ↦ elim w.if-first-eq48.branch [
    | then-first-eq48 w' ↦ no_zero c.args.text.now w'.if-first-eq48.true (grind (arith, nat_tests))
    | else-first-eq48 w' ↦ absurd (grind (arith, nat_tests))
  ]
])

pub returns-in_default-from_utf8 : goal.returns-in_default-from_utf8
returns-in_default-from_utf8 c = is_decimal_in c.args.text.now None
    (no_text c.args.text.now c.in_default-from_utf8.ensures.cases.0)

pub returns : goal.returns
returns c =
    c.ok.ensures.value
    ∙ is_decimal_in c.args.text.now _
    (parsed c.args.text.now c.parse.result (rw c.in-Ok.ensures.cases.0 at c.parse.ensures.value.0)
    c.if-first-eq43.false
    (λ zero. elim c.if-first-eq48.branch [
      | then-first-eq48 w ↦ grind (arith, nat_tests)
      | else-first-eq48 w ↦ absurd (w.if-first-eq48.false zero)
    ]))
