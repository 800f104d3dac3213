-- What is decided for the facts for which a store stands (own).
--   DecidesFor   a decision is that by the facts, or that of a first revocation of an unseen token
use Rattle.std.specs.Prelude.{◌≡◌, ◌⊎◌, ℕ, List}
use Rattle.tk_store.specs.FactSet.{FactSet}
use Rattle.tk_store.specs.WholeStores.{whole_store}
use Rattle.tk_message.specs.RequestFields.{RequestFields}
use Rattle.tk_message.specs.declared.decision.Decision.{Decision}
use Rattle.tk_message.specs.declared.place.Place.{Place}
use Rattle.tk_message.specs.declared.request.Endpoint.TheVariants.{Revoke}
use Rattle.tk_query.specs.Anew.{IsAnew}
use Rattle.tk_region.specs.Decision.{decision_of}

-- the decision for the request is that by the facts; or the request revokes a token that the facts
-- don't have, and that it revoked before, and the decision is that of a first revocation
abbrev pub DecidesFor : FactSet → Place → ℕ → List ℕ → RequestFields → Decision → Type 0
DecidesFor F place now words request d =
    (d ≡ decision_of (whole_store F) place now words request)
    ⊎ ((request.endpoint ≡ Revoke) × IsAnew (whole_store F) place now request d)
