use Rattle.std.proofs.Common.{Result, Ok, Err}
use Rattle.std.specs.Prelude.{MatchResult, OnErr, IfOk}
use Rattle.tokend.proofs.promises.an_error_changes_nothing.Goals as goal

-- a result by its two cases
by_cases : {A E : Type 0} (r : Result A E) (P : A → Type 0) (R : Type 0) → IfOk r P → OnErr r R
    → MatchResult r P (λ _. R)
by_cases (Ok a) P R h k = h
by_cases (Err e) P R h k = k

pub returns : goal.returns
returns c = by_cases c.run.result _ _ c.run.ensures.acts c.run.ensures.err
