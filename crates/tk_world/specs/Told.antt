-- What a region answers, and the fact that it makes, by all its facts (own).
--   AnswersAnew   a token that is not seen, and was revoked before, is revoked as if for the first
--                 time
--   TellsBy       an answer and a fact are those by all facts, or of such a revocation
use Rattle.std.specs.Prelude.{◌≡◌, ◌≤◌, ◌⊎◌, ℕ, List, Option, None}
use Rattle.tk_handle.specs.declared.dot.Dot.{Dot}
use Rattle.tk_fact.specs.declared.body.Body.{Body}
use Rattle.tk_store.specs.FactSet.{FactSet}
use Rattle.tk_store.specs.WholeStores.{whole_store}
use Rattle.tk_message.specs.RequestFields.{RequestFields}
use Rattle.tk_message.specs.declared.decision.Decision.{Decision}
use Rattle.tk_message.specs.declared.request.Endpoint.TheVariants.{Revoke}
use Rattle.tk_query.specs.Anew.{IsAnew}
use Rattle.tk_region.specs.RegionFields.{RegionFields, place_in}
use Rattle.tk_region.specs.Step.{PreparedFields, prepared_by}
use Rattle.tk_edge.specs.Answers.{answer_by, fact_by, rendered}
use Rattle.tk_edge.specs.Told.{AnswerFields}
use Rattle.tk_edge.specs.declared.hear.Arrival.{Arrival}
use Rattle.tk_edge.specs.declared.hear.Arrival.TheVariants.{Request}

-- what was heard revokes a token that the facts F don't have, but that they say its sender revoked
-- before. The region r decides that from its horizon on as if it was the first revocation
pub record AnswersAnew (r : RegionFields) (F : FactSet) (now : ℕ) (heard : Arrival)
    (answer : AnswerFields) (fact : Option (Dot × Body)) : Type 0 where
  pub request : RequestFields
  pub is : heard ≡ Request request
  pub revokes : request.endpoint ≡ Revoke
  pub soon : r.facts.horizon ≤ now
  pub decision : Decision
  pub anew : IsAnew (whole_store F) (place_in r) now request decision
  pub prepared : PreparedFields
  pub prepares : prepared ≡ prepared_by r.settings.cap (place_in r) decision
  pub answers : answer ≡ rendered prepared.reply None prepared.logged
  pub makes : fact ≡ prepared.fact

-- the answer and the fact are those of the region r, which holds the facts F, or those of a first
-- revocation
abbrev pub TellsBy : RegionFields → FactSet → ℕ → List ℕ → Arrival → AnswerFields
    → Option (Dot × Body) → Type 0
TellsBy r F now words heard answer fact =
    ((answer ≡ answer_by r now words heard) × (fact ≡ fact_by r now words heard))
    ⊎ AnswersAnew r F now heard answer fact
