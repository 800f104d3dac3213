-- The reply to what arrived over a connection, and what it does to the region (own).
--   Answers   how replying to an arrival may end
--   IsShort   what a region may be after memory ran out, wherever that happens
use Rattle.std.specs.Prelude.{◌≡◌, ◌⊎◌, ℕ, List, Option, Result}
use Rattle.std.specs.declared.alloc.AllocError.{AllocError}
use Rattle.tk_region.specs.RegionFields.{RegionFields}
use Rattle.tk_edge.specs.Answers.{AnswersBy, answer_at, fact_by}
use Rattle.tk_edge.specs.Exchanges.{Exchanges, Pushes}
use Rattle.tk_edge.specs.Heard.{Arrives}
use Rattle.tk_edge.specs.Terms.{TermsFields}
use Rattle.tk_edge.specs.Told.{AnswerFields}
use Rattle.tk_edge.specs.declared.ahead.PushError.{PushError}
use Rattle.tk_edge.specs.declared.exchange.Exchange.TheVariants.{Push}
use Rattle.tk_edge.specs.declared.hear.Arrival.{Arrival}
use Rattle.tk_edge.specs.declared.hear.Arrival.TheVariants.{Exchange}
use Rattle.tk_edge.specs.declared.reach.Reach.{Reach}

-- how replying to an arrival may end by the terms, at the moment and with the random words
abbrev pub Answers : TermsFields → RegionFields → ℕ → List ℕ → Arrival
    → Result AnswerFields AllocError → RegionFields → Type 0
Answers terms old now words (Exchange exchange) result new =
    Exchanges terms now old exchange result new
Answers terms old now words came result new =
    AnswersBy old (answer_at terms old now words came) (fact_by old now words came) result new

-- the region is unchanged, or a bundle was pushed and some of its facts, from the first on, are in
abbrev pub IsShort : Reach → TermsFields → ℕ → Option (List ℕ) → RegionFields → RegionFields
    → Type 0
IsShort reach terms now known old new =
    (new ≡ old)
    ⊎ ((sent : List ℕ) × Arrives reach known (Exchange (Push sent))
    × (taken : Result ℕ PushError) × Pushes terms now old sent taken new)
