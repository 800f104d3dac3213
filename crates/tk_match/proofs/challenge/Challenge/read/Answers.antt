use Rattle.std.proofs.Common.{arith, rules}
use Rattle.std.proofs.lemmas.Grind.{common_steps}
use Rattle.tk_match.proofs.AsciiTexts.{verifier_utf8}
use Rattle.tk_match.proofs.challenge.Challenge.read.Goals as goal

pub unreachable-requires : goal.unreachable-requires
unreachable-requires c = search (rules, verifier_utf8)

pub returns-then-not-is_verifier-clause-ok : goal.returns-then-not-is_verifier-clause-ok
returns-then-not-is_verifier-clause-ok c = grind (arith, common_steps)

pub returns-then-not-is_verifier-clause-method : goal.returns-then-not-is_verifier-clause-method
returns-then-not-is_verifier-clause-method c = grind (arith, common_steps)

pub returns-then-not-is_verifier-clause-grammar : goal.returns-then-not-is_verifier-clause-grammar
returns-then-not-is_verifier-clause-grammar c = grind (arith, common_steps)

pub returns-then-not-is_verifier-clause-method_none
    : goal.returns-then-not-is_verifier-clause-method_none
returns-then-not-is_verifier-clause-method_none c = grind (arith, common_steps)

pub returns-then-not-is_verifier-clause-grammar_none
    : goal.returns-then-not-is_verifier-clause-grammar_none
returns-then-not-is_verifier-clause-grammar_none c = grind (arith, common_steps)

pub returns-in_err-text-clause-ok : goal.returns-in_err-text-clause-ok
returns-in_err-text-clause-ok c = grind (arith, common_steps)

pub returns-in_err-text-clause-method : goal.returns-in_err-text-clause-method
returns-in_err-text-clause-method c = grind (arith, common_steps)

pub returns-in_err-text-clause-grammar : goal.returns-in_err-text-clause-grammar
returns-in_err-text-clause-grammar c = grind (arith, common_steps)

pub returns-in_err-text-clause-method_none : goal.returns-in_err-text-clause-method_none
returns-in_err-text-clause-method_none c = grind (arith, common_steps)

pub returns-in_err-text-clause-grammar_none : goal.returns-in_err-text-clause-grammar_none
returns-in_err-text-clause-grammar_none c = grind (arith, common_steps)
