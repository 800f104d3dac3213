use Rattle.std.proofs.Common.{◌≡◌, ℕ, List, length, Some, inr, ap, sym, ◌∙◌, subst, arith}
use Rattle.std.proofs.Common.{string_bytes, true}
use Rattle.std.specs.List.{list_all}
use Rattle.tk_scope.specs.Scope.{HasSameTokens, is_token, scope_of, scope_text, tokens_of}
use Rattle.tk_scope.specs.declared.error.ScopeError.TheVariants.{Malformed}
use Rattle.tk_scope.proofs.Printing.{IsAccepted, no_scope, not_utf8, scope_text_again}
use Rattle.tk_scope.proofs.Printing.{scope_text_members}
use Rattle.tk_scope.proofs.scope.Scope.read.Goals as goal

-- a text that was read passes each test
passes : (c : goal.In_ok-text) → IsAccepted c.args.text.now
passes c =
    let same = c.in-Ok.ensures.cases.0 in
    record {
      short = omega arith;
      tokens = subst (λ (t : List ℕ). list_all is_token (tokens_of t) ≡ true) same
          (sym c.is_list_of_tokens.ensures ∙ c.if-not-is_list_of_tokens.false);
      few = omega (arith, c.token_count.ensures, ap (λ (t : List ℕ). length (tokens_of t)) same);
    }

-- the text that was printed is the printed form of the text read
is_printed : (c : goal.In_ok-text)
    → scope_text (tokens_of c.args.text.now) ≡ string_bytes c.in_ok-text.text
is_printed c = sym (c.in_ok-text.ensures
    ∙ ap (λ (t : List ℕ). scope_text (tokens_of t)) c.in-Ok.ensures.cases.0)

pub returns-in_default-clause-refused : goal.returns-in_default-clause-refused
returns-in_default-clause-refused c =
    inr (not_utf8 c.args.text.now (omega arith) c.in_default.ensures.cases.0)

pub returns-in_default-clause-grammar : goal.returns-in_default-clause-grammar
returns-in_default-clause-grammar c _ = no_scope c.args.text.now Malformed
    (not_utf8 c.args.text.now (omega arith) c.in_default.ensures.cases.0)

pub invariant_of-result : goal.invariant_of-result
invariant_of-result c = subst (λ (s : List ℕ). scope_of s ≡ Some s) (is_printed c)
    (scope_text_again c.args.text.now (passes c))

pub returns-clause-members : goal.returns-clause-members
returns-clause-members c = subst (HasSameTokens c.args.text.now) (is_printed c)
    (scope_text_members c.args.text.now (passes c))
