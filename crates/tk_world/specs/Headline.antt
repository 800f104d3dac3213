-- What a world promises of the state that it stands for (own).
--   RunStands    a run of a world is a run of that state, with the same outcomes
--   AnswersFor   from its horizon on, a region answers as one that holds all its facts
use Rattle.std.specs.Prelude.{◌≡◌, ◌≤◌, ℕ, List, Some}
use Rattle.std.specs.FinMap as map
use Rattle.tk_store.specs.FactSet.{FactSet, Facts}
use Rattle.tk_store.specs.Joining.{JoinsFacts, SameFacts}
use Rattle.tk_store.specs.StoreFields.{StoreFields}
use Rattle.tk_edge.specs.Answers.{answer_by, fact_by}
use Rattle.tk_edge.specs.declared.hear.Arrival.{Arrival}
use Rattle.tk_world.specs.declared.event.Event.{Event}
use Rattle.tk_world.specs.declared.event.Outcome.{Outcome}
use Rattle.tk_world.specs.Carrying.{Way}
use Rattle.tk_world.specs.State.{Kept, State, facts_in, region_with}
use Rattle.tk_world.specs.Told.{TellsBy}
use Rattle.tk_world.specs.World.{RunBy, seen_by}
use Rattle.tk_world.specs.WorldFields.{WorldFields, region_at}
use Rattle.tk_world.specs.WorldStands.{WorldStands}

-- a run from a world that stands for the state s is a run from s with the same outcomes, in which
-- no fact is skipped, and the new world stands for where it ends
pub record RunStands (way : Way) (s : State) (events : List Event) (outcomes : List Outcome)
    (new : WorldFields) : Type 0 where
  pub shown : List Facts
  pub made : FactSet
  pub after : State
  pub run : RunBy way s events outcomes shown after
  pub stands : WorldStands new made after
  -- each region's facts are its old ones joined with what it has seen, which agrees with them
  pub joins : (r : ℕ) → JoinsFacts (facts_in s r) (seen_by r events shown) (facts_in after r)
  -- two regions that began alike and have seen the same facts, in any order and any number of
  -- times, are alike
  pub alike : (q r : ℕ) → facts_in s q ≡ facts_in s r
      → SameFacts (seen_by q events shown) (seen_by r events shown)
      → facts_in after q ≡ facts_in after r

-- the region's facts, with the horizon of a region that never pruned
abbrev pub unpruned : Kept → Kept
unpruned k = record { facts = k.facts; horizon = 0 }

-- From its horizon on, a region of a world that stands for the state s answers as a region that
-- holds all its facts and never pruned. The answers are equal, and so are the facts made for them,
-- but for a token that the region doesn't know, and that its sender revoked before by all facts: it
-- may be revoked as if for the first time.
abbrev pub AnswersFor : WorldFields → State → Type 0
AnswersFor w s =
    (r : ℕ) (P : StoreFields) (k : Kept) → map.get w.regions r ≡ Some P
    → map.get s.regions r ≡ Some k → (now : ℕ) → P.horizon ≤ now → (words : List ℕ)
    → (heard : Arrival)
    → TellsBy (region_with s r (unpruned k)) k.facts now words heard
    (answer_by (region_at w r P) now words heard) (fact_by (region_at w r P) now words heard)
