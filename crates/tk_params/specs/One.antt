-- How often a name occurs (own).
--   IsOne   a `One` of the code fits the values of a name
use Rattle.std.specs.Prelude.{◌≡◌, ℕ, ◌≤◌, List, [], ◌∷◌, length}
use Rattle.tk_params.specs.declared.params.One.{One}
use Rattle.tk_params.specs.declared.params.One.TheVariants.{Absent, Value, Twice}

-- a `One` of the code fits the values of a name: no value; exactly one value; two or more
abbrev pub IsOne : One → List (List ℕ) → Type 0
IsOne Absent values = values ≡ []
IsOne (Value text) values = values ≡ text.now ∷ []
IsOne Twice values = 2 ≤ length values
