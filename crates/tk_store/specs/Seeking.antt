-- One step of the search for dots that a vector does not cover (own).
--   GoesOn    where the search goes on from a dot
--   SeeksAt   what is left to find after a step
--   Seeks     what a step does, if there is one
--   noted     the dots found, with that of a step
use Rattle.std.specs.Prelude.{
  ◌≡◌,
  ◌<◌,
  ◌≤◌,
  Bool,
  true,
  false,
  List,
  [],
  ◌∷◌,
  ◌++◌,
  length,
  map,
  Option,
  Some,
  None,
}
use Rattle.tk_handle.specs.declared.dot.Dot.{Dot}
use Rattle.tk_vector.specs.VersionVector.{Vector, entry}
use Rattle.tk_store.specs.declared.since.Step.{Step}
use Rattle.tk_store.specs.FactSet.{dot_of}
use Rattle.tk_store.specs.Slots.{Slots}
use Rattle.tk_store.specs.Beyond.{beyond}
use Rattle.tk_store.specs.Walk.{above}

-- where the search goes on from a dot: from the dot itself if the vector does not cover it,
-- otherwise from the last dot of the region that the vector covers
abbrev pub GoesOn : Vector → Dot → Dot → Bool → Type 0
GoesOn v d at true = (at ≡ d) × (entry v d.region < d.serial)
GoesOn v d at false =
    (at ≡ record { region = d.region; serial = entry v d.region }) × (d.serial ≤ entry v d.region)

-- a step to `at` takes the first dot that is not covered from what is left to find, or no dot
abbrev pub SeeksAt : Slots → Vector → Option Dot → Dot → Bool → Type 0
SeeksAt F v after at true = map dot_of (beyond F v after) ≡ at ∷ map dot_of (beyond F v (Some at))
SeeksAt F v after at false = map dot_of (beyond F v after) ≡ map dot_of (beyond F v (Some at))

-- a step, after which fewer dots are to come; or no step, if nothing is left to find
abbrev pub Seeks : Slots → Vector → Option Dot → Option Step → Type 0
Seeks F v after (Some step) =
    SeeksAt F v after step.at step.is_beyond
    × (length (above F (Some step.at)) < length (above F after))
Seeks F v after None = map dot_of (beyond F v after) ≡ []

-- the dots found, with that of the step if it is not covered
abbrev pub noted : List Dot → Dot → Bool → List Dot
noted found at true = found ++ at ∷ []
noted found at false = found
