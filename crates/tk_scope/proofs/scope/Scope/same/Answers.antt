use Rattle.std.proofs.Common.{◌≡◌, ℕ, List, subst, sym, ◌∙◌}
use Rattle.std.proofs.lemmas.List.Elements.{All-contains_itself}
use Rattle.std.proofs.lemmas.Slice.Eq.{bytes_eq-Decides}
use Rattle.tk_scope.specs.Scope.{HasSameTokens, tokens_of}
use Rattle.tk_scope.proofs.Printing.{same_scope}
use Rattle.tk_scope.proofs.scope.Scope.same.Goals as goal

-- equal scopes have the same tokens
itself : (a b : List ℕ) → a ≡ b → HasSameTokens a b
itself a b same = subst (HasSameTokens a) same
    (All-contains_itself (tokens_of a), All-contains_itself (tokens_of a))

pub returns-clause-members : goal.returns-clause-members
returns-clause-members c =
    let equal = bytes_eq-Decides c.args.self.now c.args.other.now in
    let is = rw (c.text.ensures.value, c.text-2.ensures.value) at c.eq.ensures in (
      λ h. itself c.args.self.now c.args.other.now (equal.0 (sym is ∙ h)),
      λ h. is ∙ equal.1
          (same_scope c.args.self.now c.args.other.now c.text.ensures.again c.text-2.ensures.again
          h),
    )
