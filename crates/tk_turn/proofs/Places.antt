-- The connections at places, one after the other.
use Rattle.std.proofs.Common.{◌≡◌, ℕ, ◌+◌, ◌≤◌, List, [], ◌++◌, length, drop}
use Rattle.std.proofs.Common.{refl, sym, append-nil, subst}
use Rattle.std.proofs.lemmas.List.{drop_all}
use Rattle.tk_turn.specs.Outcomes.{Decides}
use Rattle.tk_turn.specs.Links.{LinkFields}
use Rattle.tk_turn.specs.Turns.{AreChangedAt, AreDecidedAt}

-- the connections at the places before one are decided
pub record Turning {S : Type 0} (decides : Decides S) (places : List ℕ) (old : S)
    (before : List LinkFields) (at : ℕ) (now : S) (links : List LinkFields) (logged : List ℕ)
    : Type 0 where
  pub joins : (new : S) (after : List LinkFields) (rest : List ℕ)
      → AreDecidedAt decides (drop at places) now links new after rest
      → AreDecidedAt decides places old before new after (logged ++ rest)

-- behind the last place all are decided
pub all_turned : {S : Type 0} (decides : Decides S) (places : List ℕ) (old : S)
    (before : List LinkFields) (at : ℕ) (now : S) (links : List LinkFields) (logged : List ℕ)
    → length places ≤ at → Turning decides places old before at now links logged
    → AreDecidedAt decides places old before now links logged
all_turned decides places old before at now links logged over so_far =
    let none : drop at places ≡ [] = drop_all at places over in
    let last = subst (λ (x : List ℕ). AreDecidedAt decides x now links now links []) (sym none)
    (refl, refl, refl) in
    subst (λ (x : List ℕ). AreDecidedAt decides places old before now links x) (append-nil logged)
    (so_far.joins now links [] last)

-- the connections at the places before one are changed
pub record Changing (change : LinkFields → LinkFields) (places : List ℕ) (before : List LinkFields)
    (at : ℕ) (links : List LinkFields) : Type 0 where
  pub joins : (after : List LinkFields) → AreChangedAt change (drop at places) links after
      → AreChangedAt change places before after
