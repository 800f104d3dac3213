-- The places of one page after a write.
use Rattle.std.proofs.Common.{◌≡◌, ◌≢◌, ℕ, ◌==◌, cond}
use Rattle.std.proofs.Common.{length, List, [], ◌∷◌, ◌++◌, Option, Some, None}
use Rattle.std.proofs.Common.{refl, sym, ◌∙◌, inl, inr, arith, get_or, zero, suc}
use Rattle.std.proofs.Common.{length-append, eqb-true as nat_same}
use Rattle.std.proofs.lemmas.List.{get_or_past, get_or_push, get_or_append_left}
use Rattle.std.proofs.lemmas.Bool.{cases_Bool, cond-true, cond-false, cases_lt}
use Rattle.tk_dots.proofs.CellLaws.{nat_is}
use mathlib.Core.Bool.{false≢true}

module _ {X : Type 0} where
  -- one more empty cell changes no cell
  pub push_none : (xs : List (Option X)) (j : ℕ)
      → get_or (xs ++ None ∷ []) j None ≡ get_or xs j None
  push_none [] zero = refl
  push_none [] (suc j) = refl
  push_none (x ∷ xs) zero = refl
  push_none (x ∷ xs) (suc j) = push_none xs j

  -- one more value is the cell behind the others
  pub push_some : (xs : List (Option X)) (x : X) (n j : ℕ) → length xs ≡ n
      → get_or (xs ++ Some x ∷ []) j None ≡ cond (j == n) (Some x) (get_or xs j None)
  push_some xs x n j len = elim (cases_Bool (j == n)) [
    | inl same ↦
        get_or_push xs (Some x) None j (len ∙ sym (nat_same j n same)) ∙ sym (cond-true _ _ _ same)
    | inr apart ↦ elim (cases_lt j n) [
      | inl lt ↦ get_or_append_left xs (Some x ∷ []) None j (omega (arith, lt, len))
          ∙ sym (cond-false _ _ _ apart)
      | inr ge ↦
          let other : j ≢ n = (λ e. absurd (false≢true (sym apart ∙ nat_is j n e))) in
          get_or_past (xs ++ Some x ∷ []) j None
          (omega (arith, length-append xs (Some x ∷ []), len, ge, other))
          ∙ sym (get_or_past xs j None (omega (arith, len, ge))) ∙ sym (cond-false _ _ _ apart)
    ]
  ]
