-- The test of inclusion decides inclusion (`within_decides`).
use Rattle.std.proofs.Common.{ℕ, List, All, Contains, bytes_eq, refl}
use Rattle.std.specs.Bool.{Decides}
use Rattle.std.specs.Cmp.Lexicographic.{nat_list_eq_equiv}
use Rattle.std.specs.List.{list_all, list_any}
use Rattle.std.proofs.lemmas.Bool.Decides.{Decides-by_and}
use Rattle.std.proofs.lemmas.Map.Views.{Contains-from_any, list_any-from_Contains}
use Rattle.std.proofs.lemmas.Slice.Eq.{bytes_eq-Decides}

-- the test of membership decides whether a token is in a list
has_decides : (ts : List (List ℕ)) (t : List ℕ) → Decides (list_any (bytes_eq t) ts) (Contains ts t)
has_decides ts t = (
  Contains-from_any (λ x y e. (bytes_eq-Decides x y).0 e) t ts,
  list_any-from_Contains nat_list_eq_equiv t ts,
)

-- the test of inclusion decides whether each token of one list is in the other
pub within_decides : (ts us : List (List ℕ))
    → Decides (list_all (λ t. list_any (bytes_eq t) us) ts) (All (Contains us) ts)
within_decides ts us = Decides-by_and (λ t. list_any (bytes_eq t) us) (Contains us)
    (list_all (λ t. list_any (bytes_eq t) us)) (has_decides us) refl (λ _ _. refl) ts
