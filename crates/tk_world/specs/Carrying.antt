-- How a request is carried to a region's edge, and its reply back (own).
--   Way         what a request may be heard as, and what its reply shows of the answer
--   IsReplied   a reply has the status and the bytes of an answer
--   in_place    the way without a device between: the bytes are heard, and the answer is the reply
--   Makes       the fact made for an answer, if any, is added to an edge's region
--   Answers     the outcomes of a request that was carried
--   Carries     what carrying a request does to an edge, by its result
use Rattle.std.specs.Prelude.{◌≡◌, ◌⊎◌, ℕ, List, IfSome, Result, Ok, Err}
use Rattle.tk_message.specs.declared.status_code.StatusCode.{StatusCode}
use Rattle.tk_region.specs.RegionFields.{Gains}
use Rattle.tk_region.specs.Step.{IsNextFact}
use Rattle.tk_edge.specs.Answers.{answer_at, fact_by}
use Rattle.tk_edge.specs.EdgeFields.{EdgeFields}
use Rattle.tk_edge.specs.Heard.{IsHeard}
use Rattle.tk_edge.specs.Told.{AnswerFields}
use Rattle.tk_edge.specs.declared.hear.Arrival.{Arrival}
use Rattle.tk_world.specs.declared.event.Outcome.{Outcome}
use Rattle.tk_world.specs.declared.event.Outcome.TheVariants.{Reply, Memory}
use Rattle.tk_world.specs.AskedFields.{AskedFields}

-- a way to carry requests: what the bytes of a request may be heard as, and what the status and the
-- bytes of its reply show of the answer
pub record Way : Type 1 where
  pub Hears : List ℕ → Arrival → Type 0
  pub Shows : AnswerFields → StatusCode → List ℕ → Type 0

-- a reply has the status and the bytes of an answer
abbrev pub IsReplied : AnswerFields → StatusCode → List ℕ → Type 0
IsReplied answer status bytes = (status ≡ answer.status) × (bytes ≡ answer.bytes)

-- the way without a device between: the bytes of the request are heard, and the reply has the
-- answer's status and bytes
abbrev pub in_place : Way
in_place = record { Hears = IsHeard; Shows = IsReplied }

-- the fact made for the answer, if any, is the region's next and is added; nothing else of the edge
-- changes
pub record Makes (old : EdgeFields) (asked : AskedFields) (heard : Arrival)
    (new : EdgeFields) : Type 0 where
  pub gains : Gains old.region (fact_by old.region asked.now asked.words heard) new.region
  pub next : IfSome (fact_by old.region asked.now asked.words heard) (IsNextFact old.region)
  pub sealed : new.sealed ≡ old.sealed
  pub terms : new.terms ≡ old.terms

-- the reply shows the answer to what was heard; if memory runs out, the edge is unchanged
abbrev pub Answers : Way → EdgeFields → AskedFields → Outcome → EdgeFields → Type 0
Answers way old asked (Reply status bytes) new =
    (heard : Arrival) × way.Hears asked.bytes heard
    × way.Shows (answer_at old.terms old.region asked.now asked.words heard) status bytes.items
    × Makes old asked heard new
Answers way old asked Memory new = new ≡ old
Answers way old asked outcome new = ⊥

-- carrying a request ends with its outcome, or with a fault, after which the edge is unchanged or
-- the reply alone is lost
abbrev pub Carries : {F : Type 0} → Way → EdgeFields → AskedFields → Result Outcome F → EdgeFields
    → Type 0
Carries way old asked (Ok outcome) new = Answers way old asked outcome new
Carries way old asked (Err fault) new =
    (new ≡ old) ⊎ ((heard : Arrival) × way.Hears asked.bytes heard × Makes old asked heard new)
